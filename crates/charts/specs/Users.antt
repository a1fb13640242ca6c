-- Who may lock an object in a mode. Assumes nothing.
use Rattle.std.specs.Prelude.{ℕ, min, Bool, cond, not, ◌&&◌, List, [], ◌∷◌, ◌==◌, ◌<◌, nat_le, slice_index_or}
use Rattle.rules.specs.Meaning.{Meaning}
use Rattle.plans.specs.Ceilings.{ceiling}
use Rattle.plans.specs.declared.parts.Use.{Use}
use Rattle.protocol.specs.declared.words.LockRecord.{LockRecord}

-- the use is of this object, in this mode
abbrev pub is_of : ℕ → ℕ → Use → Bool
is_of object mode u = u.object == object && u.mode == mode

-- the smallest number of a task with such a use, and 16, past every task, where there is none
abbrev pub highest_user : List Use → ℕ → ℕ → ℕ
highest_user [] object mode = 16
highest_user (u ∷ us) object mode = let rest = highest_user us object mode in cond (is_of object mode u) (min u.task rest) rest

-- the entry of a table of users for an object and a mode, and 16 where it has none
abbrev pub entry : List (List ℕ) → ℕ → ℕ → ℕ
entry users object mode = slice_index_or (slice_index_or users object []) mode 16

-- the object and the mode of a use are among 32 objects and 8 modes
abbrev pub HasEntry : Use → Type 0
HasEntry u = (u.object < 32) × (u.mode < 8)

-- another task has the record, and its ceiling is at most the caller's own number
abbrev pub blocks_under : Meaning → List Use → ℕ → LockRecord → Bool
blocks_under m uses task r = not (r.task == task) && nat_le (ceiling m uses r.object r.mode) task
