-- What calls are answered: of which kind each answer is, what the next call in a state that was reached comes to, and what its acceptance tells. Assumes nothing.
use Rattle.std.specs.Prelude.{◌≡◌, ℕ, ◌<◌, ◌≤◌, Bool, true, [], ◌∷◌, ◌++◌, length, ℤ, pos, Some, None, Option, ◌≢◌, slice_index_or}
use Rattle.std.specs.List.{ContainsAt}
use Rattle.plans.specs.Contents.{budget_of}
use Rattle.plans.specs.declared.parts.Use.{Use}
use Rattle.plans.specs.declared.refusal.Refusal.{Refusal}
use Rattle.protocol.specs.declared.words.Standing.TheVariants.{Resting, Ready, Waiting}
use Rattle.protocol.specs.declared.words.LockRecord.{LockRecord}
use Rattle.protocol.specs.declared.words.Call.{Call}
use Rattle.protocol.specs.declared.words.Call.TheVariants.{Arrive, Lock, Read, Write, Close, Drop, Tick}
use Rattle.protocol.specs.declared.words.Account.{Account}
use Rattle.protocol.specs.declared.words.Answer.{Answer}
use Rattle.protocol.specs.declared.words.Answer.TheVariants.{Open, Granted, Wait, Value, Written, Closed, Dropped, Ran, Idle, Refused}
use Rattle.protocol.specs.Tasks.{task_at, standing_at, running}
use Rattle.protocol.specs.Machine.{Setup, State, lock_ceiling, cell_of, account_of, step}
use Rattle.protocol.specs.Lines.{accepted}

-- the answers that a call can have: any call may be refused
pub data AnswerOf : Call → Answer → Type 0 where
  refused : (c : Call) (why : Refusal) → AnswerOf c (Refused why)
  opened : (task : ℕ) → AnswerOf (Arrive task) Open
  granted : (task object mode : ℕ) → AnswerOf (Lock task object mode) Granted
  wait : (task object mode h : ℕ) → AnswerOf (Lock task object mode) (Wait h)
  value : (task object part : ℕ) (v : ℤ) → AnswerOf (Read task object part) (Value v)
  written : (task object part : ℕ) (v : ℤ) → AnswerOf (Write task object part v) Written
  closed : (task : ℕ) (a : Account) → AnswerOf (Close task) (Closed a)
  dropped : (task : ℕ) (a : Account) → AnswerOf (Drop task) (Dropped a)
  ran : (j : ℕ) → AnswerOf Tick (Ran j)
  idle : AnswerOf Tick Idle

-- task i is blocked by task h, which holds a record whose ceiling is at most i
pub record BlockedBy (setup : Setup) (s : State) (i h : ℕ) : Type 0 where
  pub lock : LockRecord
  pub held : ContainsAt s.locks lock
  pub own : lock.task ≡ h
  pub reaches : lock_ceiling setup lock ≤ i

-- the running task asks for one of its uses, which it does not hold
pub record Asks (setup : Setup) (s : State) (u : Use) : Type 0 where
  pub listed : ContainsAt setup.plan.uses u
  pub runs : running s.tasks ≡ Some u.task
  pub not_held : (r : LockRecord) → ContainsAt s.locks r → r.task ≡ u.task → r.object ≡ u.object → r.mode ≢ u.mode

-- the call that asks for a use
abbrev pub asking : Use → Call
asking u = Lock u.task u.object u.mode

-- the record of the use, held
abbrev pub asked_record : Use → LockRecord
asked_record u = record { task = u.task; object = u.object; mode = u.mode }

-- what any next call comes to in a state that was reached
pub record Answers (setup : Setup) (s : State) : Type 0 where
  -- a refused call changes nothing
  pub refused_keeps : (c : Call) (why : Refusal) → (step setup s c).answer ≡ Refused why → (step setup s c).left ≡ s
  -- a resting task of the plan that arrives is open, and is ready
  pub arrive_opens : (task : ℕ) → task < length setup.plan.rows → standing_at s.tasks task ≡ Resting → let o = step setup s (Arrive task) in (o.answer ≡ Open) × (standing_at o.left.tasks task ≡ Ready)
  -- a tick is run by the running task, as long as its budget lasts
  pub tick_ran : (j : ℕ) → running s.tasks ≡ Some j → (task_at s.tasks j).used < budget_of setup.plan j → (step setup s Tick).answer ≡ Ran j
  -- where nobody runs, it is idle
  pub tick_idle : running s.tasks ≡ None → (step setup s Tick).answer ≡ Idle
  -- the running task closes when it asks to, with its counts as they stand, and rests
  pub close_closed : (j : ℕ) → running s.tasks ≡ Some j → let o = step setup s (Close j) in (o.answer ≡ Closed (account_of s j)) × (standing_at o.left.tasks j ≡ Resting)
  -- so it is with a drop
  pub drop_dropped : (j : ℕ) → running s.tasks ≡ Some j → let o = step setup s (Drop j) in (o.answer ≡ Dropped (account_of s j)) × (standing_at o.left.tasks j ≡ Resting)
  -- where another task's record has a ceiling at most the asker's number, the asker is told to wait for that task, and waits
  pub blocked_waits : (u : Use) → Asks setup s u → (b : LockRecord) → ContainsAt s.locks b → (b.task ≢ u.task) → lock_ceiling setup b ≤ u.task → let o = step setup s (asking u) in (o.answer ≡ Wait b.task) × (standing_at o.left.tasks u.task ≡ Waiting b.task)
  -- where none has, the lock is granted, as long as the lock stack has room, and its record is the newest
  pub free_granted : (u : Use) → Asks setup s u → ((b : LockRecord) → ContainsAt s.locks b → (b.task ≢ u.task) → u.task < lock_ceiling setup b) → length s.locks < setup.lock_room → let o = step setup s (asking u) in (o.answer ≡ Granted) × (o.left.locks ≡ s.locks ++ (asked_record u ∷ []))
  -- the running task reads every part that a lock of its lets it read
  pub read_value : (r : LockRecord) (part : ℕ) → running s.tasks ≡ Some r.task → ContainsAt s.locks r → setup.rule.reads r.mode part ≡ true → (step setup s (Read r.task r.object part)).answer ≡ Value (slice_index_or s.cells (cell_of r.object part) (pos 0))
  -- and writes every part that one lets it write, as long as the journal has room; the cell takes the value
  pub write_written : (r : LockRecord) (part : ℕ) (v : ℤ) → running s.tasks ≡ Some r.task → ContainsAt s.locks r → setup.rule.writes r.mode part ≡ true → length s.journal < setup.journal_room → let o = step setup s (Write r.task r.object part v) in (o.answer ≡ Written) × (slice_index_or o.left.cells (cell_of r.object part) (pos 0) ≡ v)

-- the task that a lock, a read, a write, a close or a drop names
abbrev pub caller : Call → Option ℕ
caller (Arrive task) = None
caller (Lock task object mode) = Some task
caller (Read task object part) = Some task
caller (Write task object part v) = Some task
caller (Close task) = Some task
caller (Drop task) = Some task
caller Tick = None

-- the task holds a lock of the object, in a mode that passes
pub record Holds (s : State) (task object : ℕ) (mode_passes : ℕ → Bool) : Type 0 where
  pub lock : LockRecord
  pub held : ContainsAt s.locks lock
  pub own : lock.task ≡ task
  pub of_object : lock.object ≡ object
  pub lets : mode_passes lock.mode ≡ true

-- what is told by the answer of any next call in a state that was reached
pub record Accepted (setup : Setup) (s : State) : Type 0 where
  -- an accepted lock, read, write, close or drop is the running task's
  pub caller_runs : (c : Call) (task : ℕ) → caller c ≡ Some task → accepted (step setup s c).answer ≡ true → running s.tasks ≡ Some task
  -- an accepted arrive is of a task of the plan, which rests
  pub arriver_rests : (task : ℕ) → accepted (step setup s (Arrive task)).answer ≡ true → (task < length setup.plan.rows) × (standing_at s.tasks task ≡ Resting)
  -- an accepted lock, granted or to be waited for, is a use of the plan that the running task does not hold
  pub locker_asks : (u : Use) → accepted (step setup s (asking u)).answer ≡ true → Asks setup s u
  -- where a lock is granted, every record of another task has a ceiling past the asker's number, and the lock stack has room
  pub granted_free : (u : Use) → (step setup s (asking u)).answer ≡ Granted → ((b : LockRecord) → ContainsAt s.locks b → (b.task ≢ u.task) → u.task < lock_ceiling setup b) × (length s.locks < setup.lock_room)
  -- the task that the asker is told to wait for is lower, and holds a record whose ceiling is at most the asker's number
  pub wait_blocked : (u : Use) (h : ℕ) → (step setup s (asking u)).answer ≡ Wait h → (u.task < h) × BlockedBy setup s u.task h
  -- an accepted read answers the cell's value, and a lock of the reader lets it read the part
  pub reader_holds : (task object part : ℕ) → let o = step setup s (Read task object part) in accepted o.answer ≡ true → (o.answer ≡ Value (slice_index_or s.cells (cell_of object part) (pos 0))) × Holds s task object (λ mode. setup.rule.reads mode part)
  -- where a write is accepted, a lock of the writer lets it write the part, and the journal has room
  pub writer_holds : (task object part : ℕ) (v : ℤ) → accepted (step setup s (Write task object part v)).answer ≡ true → Holds s task object (λ mode. setup.rule.writes mode part) × (length s.journal < setup.journal_room)
  -- the task that a tick says ran is the running task, and had budget left
  pub ran_runs : (j : ℕ) → (step setup s Tick).answer ≡ Ran j → (running s.tasks ≡ Some j) × ((task_at s.tasks j).used < budget_of setup.plan j)
  -- where a tick is idle, nobody runs
  pub idle_nobody : (step setup s Tick).answer ≡ Idle → running s.tasks ≡ None
  -- a tick is refused only where the running task's budget is spent
  pub tick_spent : (why : Refusal) → (step setup s Tick).answer ≡ Refused why → (j : ℕ) × (running s.tasks ≡ Some j) × ((task_at s.tasks j).used ≡ budget_of setup.plan j)
