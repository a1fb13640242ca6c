-- Reading a plan from bytes: what is read and the bytes after it, or the first fault. docs/PLAN.md has the format. Assumes nothing.
use Rattle.std.specs.Prelude.{ℕ, zero, suc, ◌+◌, ◌-◌, ◌*◌, Bool, cond, not, ◌&&◌, ◌||◌, List, [], ◌∷◌, ◌++◌, length, drop, ℤ, Ok, Err, Result, ◌==◌, nat_lt, slice_index, slice_index_or}
use Rattle.std.specs.Int.{w32}
use Rattle.std.specs.List.{list_any}
use Rattle.std.proofs.Common.{to_z}
use Rattle.rules.specs.Meaning.{Meaning}
use Rattle.plans.specs.Contents.{Contents, no_row}
use Rattle.plans.specs.declared.parts.Object.{Object}
use Rattle.plans.specs.declared.parts.Row.{Row}
use Rattle.plans.specs.declared.parts.Use.{Use}
use Rattle.plans.specs.declared.refusal.Refusal.{Refusal}
use Rattle.plans.specs.declared.refusal.Refusal.TheVariants.{PlanEnds, CountOutOfLimits, BadRow, PeriodFalls, UseNotThere, UseAgain, BytesAfterPlan}

-- what is read from bytes, and the bytes after it; or a fault
abbrev pub Read : Type 0 → Type 0
Read A = Result (A × List ℕ) Refusal

-- after what was read, the rest is read on; a fault ends it
abbrev pub and_then : {A B : Type 0} → Read A → (A → List ℕ → Read B) → Read B
and_then (Ok p) next = next p.0 p.1
and_then (Err why) next = Err why

-- so many bytes are taken, or the plan ends before them
abbrev pub taking : {A : Type 0} → ℕ → List ℕ → Read A → Read A
taking n bytes more = cond (nat_lt (length bytes) n) (Err PlanEnds) more

-- the signed number in four bytes, the highest first
abbrev pub value_in : List ℕ → ℤ
value_in bytes = to_z w32 (slice_index bytes 0 * 16777216 + slice_index bytes 1 * 65536 + slice_index bytes 2 * 256 + slice_index bytes 3)

abbrev pub read_value : List ℕ → Read ℤ
read_value bytes = taking 4 bytes (Ok (value_in bytes, drop 4 bytes))

-- an object: four start values
abbrev pub read_object : List ℕ → Read Object
read_object bytes =
    and_then (read_value bytes) (λ a bytes₁. and_then (read_value bytes₁) (λ b bytes₂. and_then (read_value bytes₂) (λ c bytes₃. and_then (read_value bytes₃)
    (λ d rest. Ok (record { start = a ∷ (b ∷ (c ∷ (d ∷ []))) }, rest)))))

-- a row that says too little or too much: no period, no budget, or a budget above the period
abbrev pub is_bad : Row → Bool
is_bad row = (row.period == 0 || row.budget == 0) || nat_lt row.period row.budget

-- the last of the rows so far; the first row has none before it
abbrev pub last_row : List Row → Row
last_row rows = slice_index_or rows (length rows - 1) no_row

-- a row: its period, then its budget, the highest byte first
abbrev pub row_in : List ℕ → Row
row_in bytes = record { period = slice_index bytes 0 * 256 + slice_index bytes 1; budget = slice_index bytes 2 * 256 + slice_index bytes 3 }

abbrev pub read_row : List Row → List ℕ → Read Row
read_row before bytes =
    taking 4 bytes
    (cond (is_bad (row_in bytes)) (Err BadRow)
    (cond (nat_lt (row_in bytes).period (last_row before).period) (Err PeriodFalls)
    (Ok (row_in bytes, drop 4 bytes))))

abbrev pub same_use : Use → Use → Bool
same_use u v = u.task == v.task && (u.object == v.object && u.mode == v.mode)

abbrev pub stands_in : Use → List Use → Bool
stands_in u uses = list_any (λ v. same_use v u) uses

-- the task, the object and the mode of a use are there: so many tasks, objects and modes
abbrev pub is_there : ℕ → ℕ → ℕ → Use → Bool
is_there tasks objects modes u = nat_lt u.task tasks && (nat_lt u.object objects && nat_lt u.mode modes)

-- a use: its task, its object, its mode
abbrev pub use_in : List ℕ → Use
use_in bytes = record { task = slice_index bytes 0; object = slice_index bytes 1; mode = slice_index bytes 2 }

abbrev pub read_use : ℕ → ℕ → ℕ → List Use → List ℕ → Read Use
read_use tasks objects modes before bytes =
    taking 3 bytes
    (cond (not (is_there tasks objects modes (use_in bytes))) (Err UseNotThere)
    (cond (stands_in (use_in bytes) before) (Err UseAgain)
    (Ok (use_in bytes, drop 3 bytes))))

-- n elements, each read after those before it
abbrev pub read_some : {A : Type 0} → (List A → List ℕ → Read A) → ℕ → List A → List ℕ → Read (List A)
read_some one zero before bytes = Ok (before, bytes)
read_some one (suc n) before bytes = and_then (one before bytes) (λ x rest. read_some one n (before ++ (x ∷ [])) rest)

-- a section after its count, which lies within its limits
abbrev pub counted : {A : Type 0} → ℕ → ℕ → ℕ → (ℕ → Read A) → Read A
counted low high n section = cond (nat_lt n low || nat_lt high n) (Err CountOutOfLimits) (section n)

-- 1 to so many elements, after a count of one byte
abbrev pub read_short : {A : Type 0} → (List A → List ℕ → Read A) → ℕ → List ℕ → Read (List A)
read_short one most bytes = taking 1 bytes (counted 1 most (slice_index bytes 0) (λ n. read_some one n [] (drop 1 bytes)))

abbrev pub read_objects : List ℕ → Read (List Object)
read_objects = read_short (λ _. read_object) 32

abbrev pub read_rows : List ℕ → Read (List Row)
read_rows = read_short read_row 16

-- 0 to 512 uses, after a count of two bytes
abbrev pub read_uses : ℕ → ℕ → ℕ → List ℕ → Read (List Use)
read_uses tasks objects modes bytes =
    taking 2 bytes (counted 0 512 (slice_index bytes 0 * 256 + slice_index bytes 1) (λ n. read_some (read_use tasks objects modes) n [] (drop 2 bytes)))

-- a plan at the front of the bytes
abbrev pub read_plan : Meaning → List ℕ → Read Contents
read_plan m bytes =
    and_then (read_objects bytes) (λ objects bytes₁. and_then (read_rows bytes₁) (λ rows bytes₂. and_then (read_uses (length rows) (length objects) m.modes bytes₂)
    (λ uses rest. Ok (record { objects = objects; rows = rows; uses = uses }, rest))))

-- a plan that is all of the bytes
abbrev pub nothing_after : Read Contents → Result Contents Refusal
nothing_after (Ok p) = cond (length p.1 == 0) (Ok p.0) (Err BytesAfterPlan)
nothing_after (Err why) = Err why

abbrev pub read_whole : Meaning → List ℕ → Result Contents Refusal
read_whole m bytes = nothing_after (read_plan m bytes)
