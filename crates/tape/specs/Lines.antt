-- What a tape line means: the call that it is, where it is one. docs/TAPE.md has the format. Assumes nothing.
use Rattle.std.specs.Prelude.{◌≡◌, ℕ, cond, List, length, drop, Some, None, Option, ◌==◌, slice_index}
use Rattle.std.specs.Borrow.{Bor}
use Rattle.protocol.specs.declared.words.Call.{Call}
use Rattle.protocol.specs.declared.words.Call.TheVariants.{Arrive, Lock, Read, Write, Close, Drop, Tick}
use Rattle.tape.specs.Numbers as numbers
use Rattle.tape.specs.Numbers.{and_then, read_field, read_value}
use Rattle.tape.specs.declared.lines.Three.{Three}

-- what was read, where nothing follows
abbrev pub ended : {A : Type 0} → A → List ℕ → Option A
ended x rest = cond (length rest == 0) (Some x) None

-- a function's result is the call that is made of what was read, where nothing follows
abbrev pub IsMade : {A : Type 0} → Option (A × Bor (List ℕ)) → (A → Call → Type 0) → Option Call → Type 0
IsMade None made result = result ≡ None
IsMade (Some p) made result = (call : Call) × made p.0 call × (result ≡ ended call p.1.now)

abbrev pub read_three : List ℕ → numbers.Read Three
read_three fields =
    and_then (read_field fields) (λ task rest₁. and_then (read_field rest₁) (λ object rest₂. and_then (read_field rest₂)
    (λ third rest₃. Some (record { task = task; object = object; third = third }, rest₃))))

abbrev pub read_lock : List ℕ → Option Call
read_lock fields = and_then (read_three fields) (λ t. ended (Lock t.task t.object t.third))

abbrev pub read_read : List ℕ → Option Call
read_read fields = and_then (read_three fields) (λ t. ended (Read t.task t.object t.third))

abbrev pub read_write : List ℕ → Option Call
read_write fields = and_then (read_three fields) (λ t rest. and_then (read_value rest) (λ value. ended (Write t.task t.object t.third value)))

abbrev pub read_arrive : List ℕ → Option Call
read_arrive fields = and_then (read_field fields) (λ task. ended (Arrive task))

abbrev pub read_close : List ℕ → Option Call
read_close fields = and_then (read_field fields) (λ task. ended (Close task))

abbrev pub read_drop : List ℕ → Option Call
read_drop fields = and_then (read_field fields) (λ task. ended (Drop task))

-- the letters are A, L, R, W, F, X and T
abbrev pub read_call : ℕ → List ℕ → Option Call
read_call letter fields =
    cond (letter == 65) (read_arrive fields)
    (cond (letter == 76) (read_lock fields)
    (cond (letter == 82) (read_read fields)
    (cond (letter == 87) (read_write fields)
    (cond (letter == 70) (read_close fields)
    (cond (letter == 88) (read_drop fields)
    (cond (letter == 84) (ended Tick fields)
    None))))))

-- an empty line has no letter, and so means nothing
abbrev pub read_line : List ℕ → Option Call
read_line line = read_call (slice_index line 0) (drop 1 line)
