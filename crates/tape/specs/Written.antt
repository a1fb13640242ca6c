-- A call written out as a tape line, and which lines are calls. docs/TAPE.md has the format. Assumes nothing.
use Rattle.std.specs.Prelude.{◌≡◌, ℕ, ◌<◌, ◌↔◌, List, [], ◌∷◌, ◌++◌, negsuc, Some, None, codes, decimal, FitsSigned}
use Rattle.std.specs.Int.{w32}
use Rattle.std.specs.Fmt.{signed_decimal}
use Rattle.protocol.specs.declared.words.Call.{Call}
use Rattle.protocol.specs.declared.words.Call.TheVariants.{Arrive, Lock, Read, Write, Close, Drop, Tick}
use Rattle.tape.specs.Lines.{read_line}

-- a number in decimal digits, after a space
abbrev pub field : ℕ → List ℕ
field n = 32 ∷ decimal n

-- the letter, and then the fields: A task, L task object mode, R task object part, W task object part value, F task, X task, T
abbrev pub line_of : Call → List ℕ
line_of (Arrive task) = 65 ∷ field task
line_of (Lock task object mode) = 76 ∷ (field task ++ (field object ++ field mode))
line_of (Read task object part) = 82 ∷ (field task ++ (field object ++ field part))
line_of (Write task object part value) = 87 ∷ (field task ++ (field object ++ (field part ++ (32 ∷ signed_decimal value))))
line_of (Close task) = 70 ∷ field task
line_of (Drop task) = 88 ∷ field task
line_of Tick = 84 ∷ []

-- tasks, objects, modes and parts go to 255, values are signed and of 32 bits
abbrev pub Fit : Call → Type 0
Fit (Arrive task) = task < 256
Fit (Lock task object mode) = (task < 256) × (object < 256) × (mode < 256)
Fit (Read task object part) = (task < 256) × (object < 256) × (part < 256)
Fit (Write task object part value) = (task < 256) × (object < 256) × (part < 256) × FitsSigned w32 value
Fit (Close task) = task < 256
Fit (Drop task) = task < 256
Fit Tick = Unit {0}

-- a line is a call exactly where it is that call written out, and the call's numbers fit
abbrev pub ReadsExactly : List ℕ → Type 0
ReadsExactly line = (call : Call) → (read_line line ≡ Some call) ↔ ((line ≡ line_of call) × Fit call)

-- what some lines mean
pub record LineExamples : Type 0 where
  pub arrives : read_line (codes "A 0") ≡ Some (Arrive 0)
  pub locks : read_line (codes "L 2 0 1") ≡ Some (Lock 2 0 1)
  pub reads : read_line (codes "R 15 31 3") ≡ Some (Read 15 31 3)
  pub writes : read_line (codes "W 2 0 1 -905") ≡ Some (Write 2 0 1 (negsuc 904))
  pub ticks : read_line (codes "T") ≡ Some Tick
  -- no line at all, two spaces, a space at the end, a leading zero, a number past 255, a minus before 0, a small letter
  pub empty : read_line [] ≡ None
  pub two_spaces : read_line (codes "A  0") ≡ None
  pub space_after : read_line (codes "T ") ≡ None
  pub leading_zero : read_line (codes "A 00") ≡ None
  pub past_255 : read_line (codes "A 256") ≡ None
  pub minus_zero : read_line (codes "W 2 0 1 -0") ≡ None
  pub small_letter : read_line (codes "t") ≡ None
