-- A plan written out in bytes, and which bytes are accepted. docs/PLAN.md has the format. Assumes nothing.
use Rattle.std.specs.Prelude.{◌≡◌, ℕ, ◌/◌, ◌%◌, ◌↔◌, List, [], ◌∷◌, ◌++◌, length, ℤ, Ok}
use Rattle.std.specs.Int.{w32}
use Rattle.std.proofs.Common.{of_z}
use Rattle.std.specs.List.{flat_map}
use Rattle.rules.specs.Meaning.{Meaning}
use Rattle.plans.specs.Contents.{Contents}
use Rattle.plans.specs.Limits.{Limits}
use Rattle.plans.specs.Reading.{read_plan, read_whole}
use Rattle.plans.specs.declared.parts.Object.{Object}
use Rattle.plans.specs.declared.parts.Row.{Row}
use Rattle.plans.specs.declared.parts.Use.{Use}

-- a number of 16 bits in two bytes, the highest first
abbrev pub two_bytes : ℕ → List ℕ
two_bytes n = n / 256 ∷ (n % 256 ∷ [])

-- a signed number of 32 bits in four bytes, the highest first
abbrev pub four_bytes : ℤ → List ℕ
four_bytes z = let n = of_z w32 z in n / 16777216 ∷ (n / 65536 % 256 ∷ (n / 256 % 256 ∷ (n % 256 ∷ [])))

abbrev pub object_bytes : Object → List ℕ
object_bytes o = flat_map four_bytes o.start

abbrev pub row_bytes : Row → List ℕ
row_bytes row = two_bytes row.period ++ two_bytes row.budget

abbrev pub use_bytes : Use → List ℕ
use_bytes u = u.task ∷ (u.object ∷ (u.mode ∷ []))

-- three sections, each after its count
abbrev pub plan_bytes : Contents → List ℕ
plan_bytes plan =
    (length plan.objects ∷ flat_map object_bytes plan.objects)
    ++ ((length plan.rows ∷ flat_map row_bytes plan.rows)
    ++ (two_bytes (length plan.uses) ++ flat_map use_bytes plan.uses))

-- a plan is accepted from these bytes, with a rest, exactly where they are the plan written out and then the rest, and the plan keeps its limits
abbrev pub AcceptedExactly : Meaning → List ℕ → Type 0
AcceptedExactly m bytes = (plan : Contents) (rest : List ℕ) → (read_plan m bytes ≡ Ok (plan, rest)) ↔ ((bytes ≡ plan_bytes plan ++ rest) × Limits m plan)

-- and from all of the bytes exactly where they are the plan written out
abbrev pub AcceptedWhole : Meaning → List ℕ → Type 0
AcceptedWhole m bytes = (plan : Contents) → (read_whole m bytes ≡ Ok plan) ↔ ((bytes ≡ plan_bytes plan) × Limits m plan)
