-- Lines of calls, and what is said of them: instances, ticks, the closed instances run whole. Assumes nothing.
use Rattle.std.specs.Prelude.{◌≡◌, ℕ, ◌+◌, ◌≤◌, Bool, true, false, cond, ◌&&◌, List, [], ◌∷◌, ◌++◌, length, ℤ, pos, Some, None, Option, ◌==◌, nat_lt, slice_index_or, slice_set}
use Rattle.plans.specs.Limits.{Limits}
use Rattle.protocol.specs.declared.words.Call.{Call}
use Rattle.protocol.specs.declared.words.Call.TheVariants.{Arrive, Lock, Read, Write, Close, Drop, Tick}
use Rattle.protocol.specs.declared.words.Answer.{Answer}
use Rattle.protocol.specs.declared.words.Answer.TheVariants.{Open, Granted, Wait, Value, Written, Closed, Dropped, Ran, Idle, Refused}
use Rattle.protocol.specs.Machine.{Setup, State, made, step, names, cell_of}

-- a member of a line: a call, and what it was answered
pub record Event : Type 0 where
  pub call : Call
  pub answer : Answer

-- an accepted making: the plan keeps its limits, there are 128 cells or more, and this is what making left
pub record Started (setup : Setup) (cells : List ℤ) (start : State) : Type 0 where
  pub limits : Limits setup.rule setup.plan
  pub enough : 128 ≤ length cells
  pub left : start ≡ made setup cells

-- the line from what making left to a state: each call is made on what the one before it left.
-- A line stands newest first, so a call puts one member in front. Any call may come next, refused ones too.
pub data Line (setup : Setup) (start : State) : List Event → State → Type 0 where
  none : Line setup start [] start
  more : {line : List Event} {s : State} → Line setup start line s → (c : Call) → Line setup start (record { call = c; answer = (step setup s c).answer } ∷ line) (step setup s c).left

-- how many pass
abbrev pub count : {X : Type 0} → (X → Bool) → List X → ℕ
count p [] = 0
count p (x ∷ xs) = cond (p x) 1 0 + count p xs

-- ---- what a member of a line is

abbrev pub accepted : Answer → Bool
accepted Open = true
accepted Granted = true
accepted (Wait h) = true
accepted (Value v) = true
accepted Written = true
accepted (Closed a) = true
accepted (Dropped a) = true
accepted (Ran j) = true
accepted Idle = true
accepted (Refused why) = false

-- the task that a close names
abbrev pub closing : Call → Option ℕ
closing (Arrive task) = None
closing (Lock task object mode) = None
closing (Read task object part) = None
closing (Write task object part value) = None
closing (Close task) = Some task
closing (Drop task) = None
closing Tick = None

-- the task that a close or a drop names
abbrev pub ending : Call → Option ℕ
ending (Arrive task) = None
ending (Lock task object mode) = None
ending (Read task object part) = None
ending (Write task object part value) = None
ending (Close task) = Some task
ending (Drop task) = Some task
ending Tick = None

-- the task that an arrive names
abbrev pub arriving : Call → Option ℕ
arriving (Arrive task) = Some task
arriving (Lock task object mode) = None
arriving (Read task object part) = None
arriving (Write task object part value) = None
arriving (Close task) = None
arriving (Drop task) = None
arriving Tick = None

-- the task that a lock names
abbrev pub locking : Call → Option ℕ
locking (Arrive task) = None
locking (Lock task object mode) = Some task
locking (Read task object part) = None
locking (Write task object part value) = None
locking (Close task) = None
locking (Drop task) = None
locking Tick = None

-- the task that an answer says ran a tick
abbrev pub runner : Answer → Option ℕ
runner Open = None
runner Granted = None
runner (Wait h) = None
runner (Value v) = None
runner Written = None
runner (Closed a) = None
runner (Dropped a) = None
runner (Ran j) = Some j
runner Idle = None
runner (Refused why) = None

-- the answer tells the caller to wait
abbrev pub is_wait : Answer → Bool
is_wait Open = false
is_wait Granted = false
is_wait (Wait h) = true
is_wait (Value v) = false
is_wait Written = false
is_wait (Closed a) = false
is_wait (Dropped a) = false
is_wait (Ran j) = false
is_wait Idle = false
is_wait (Refused why) = false

-- the instance of a task begins with its accepted arrive
abbrev pub begins : ℕ → Event → Bool
begins i e = names i (arriving e.call) && accepted e.answer

-- it ends with its accepted close or drop
abbrev pub ends : ℕ → Event → Bool
ends i e = names i (ending e.call) && accepted e.answer

-- it is closed by its accepted close
abbrev pub closes : ℕ → Event → Bool
closes i e = names i (closing e.call) && accepted e.answer

-- the task is told to wait
abbrev pub told_to_wait : ℕ → Event → Bool
told_to_wait i e = names i (locking e.call) && is_wait e.answer

-- the task runs a tick
abbrev pub ticks : ℕ → Event → Bool
ticks i e = names i (runner e.answer)

abbrev pub is_below : ℕ → Option ℕ → Bool
is_below i None = false
is_below i (Some j) = nat_lt i j

-- a lower task runs a tick
abbrev pub lower_ticks : ℕ → Event → Bool
lower_ticks i e = is_below i (runner e.answer)

-- whom the newest tick of a lower task was lost to
abbrev pub last_lower : ℕ → List Event → Option ℕ
last_lower i [] = None
last_lower i (e ∷ line) = cond (lower_ticks i e) (runner e.answer) (last_lower i line)

-- ---- the closed instances, run whole

-- an accepted read of a cell, with its answer, or an accepted write of a value to a cell
pub data Deed : Type 0 where
  got : ℕ → ℤ → Deed
  put : ℕ → ℤ → Deed

abbrev pub read_answered : ℕ → Answer → List Deed
read_answered cell Open = []
read_answered cell Granted = []
read_answered cell (Wait h) = []
read_answered cell (Value v) = got cell v ∷ []
read_answered cell Written = []
read_answered cell (Closed a) = []
read_answered cell (Dropped a) = []
read_answered cell (Ran j) = []
read_answered cell Idle = []
read_answered cell (Refused why) = []

-- what a task did to the cells by a call: every call but an accepted read or write does nothing
abbrev pub deed_by : ℕ → Call → Answer → List Deed
deed_by i (Arrive task) answer = []
deed_by i (Lock task object mode) answer = []
deed_by i (Read task object part) answer = cond (task == i) (read_answered (cell_of object part) answer) []
deed_by i (Write task object part value) answer = cond (task == i && accepted answer) (put (cell_of object part) value ∷ []) []
deed_by i (Close task) answer = []
deed_by i (Drop task) answer = []
deed_by i Tick answer = []

-- the reads and writes of a task's last instance, in the order of the calls
abbrev pub deeds : ℕ → List Event → List Deed
deeds i [] = []
deeds i (e ∷ line) = cond (begins i e) [] (deeds i line ++ deed_by i e.call e.answer)

-- what a close adds: the deeds of the instance that it closes
abbrev pub closed_by : Option ℕ → Answer → List Event → List Deed
closed_by None answer line = []
closed_by (Some i) answer line = cond (accepted answer) (deeds i line) []

-- the deeds of the closed instances, one instance after the other, in the order of their closes
abbrev pub serial : List Event → List Deed
serial [] = []
serial (e ∷ line) = serial line ++ closed_by (closing e.call) e.answer line

-- what deeds leave in the cells
abbrev pub done : List Deed → List ℤ → List ℤ
done [] cells = cells
done (got cell v ∷ ds) cells = done ds cells
done (put cell v ∷ ds) cells = done ds (slice_set cells cell v)

-- every read among them answers what its cell then holds
abbrev pub Agree : List Deed → List ℤ → Type 0
Agree [] cells = Unit {0}
Agree (got cell v ∷ ds) cells = (v ≡ slice_index_or cells cell (pos 0)) × Agree ds cells
Agree (put cell v ∷ ds) cells = Agree ds (slice_set cells cell v)
