-- The laws over a line of calls. docs/PROTOCOL.md has them in words, docs/WHY.md why they hold. Assumes nothing.
use Rattle.std.specs.Prelude.{◌≡◌, ℕ, ◌*◌, ◌<◌, ◌≤◌, true, false, List, [], ◌∷◌, ◌++◌, length, get_or, ℤ, pos, Some, None, Option, ◌≢◌, slice_index_or}
use Rattle.std.specs.List.{ContainsAt, AllByRecursion}
use Rattle.rules.specs.Meaning.{Meaning, touches}
use Rattle.plans.specs.Contents.{budget_of}
use Rattle.plans.specs.Ceilings.{bound}
use Rattle.plans.specs.declared.parts.Object.{Object}
use Rattle.protocol.specs.declared.words.Standing.TheVariants.{Resting, Ready, Waiting}
use Rattle.protocol.specs.declared.words.LockRecord.{LockRecord}
use Rattle.protocol.specs.declared.words.Account.{Account}
use Rattle.protocol.specs.declared.words.Answer.{Answer}
use Rattle.protocol.specs.declared.words.Answer.TheVariants.{Open, Granted, Wait, Value, Written, Closed, Dropped, Ran, Idle, Refused}
use Rattle.protocol.specs.Tasks.{standing_at, task_at, running}
use Rattle.protocol.specs.Machine.{Setup, State, cell_of, put_back}
use Rattle.protocol.specs.Answers.{AnswerOf, BlockedBy, Answers, Accepted}
use Rattle.protocol.specs.Lines.{Event, Started, Line, count, begins, ends, told_to_wait, ticks, lower_ticks, runner, last_lower, serial, done, Agree}

-- no accepted close or drop of the task is among these
abbrev pub NoEnd : ℕ → List Event → Type 0
NoEnd i members = AllByRecursion (λ e. ends i e ≡ false) members

-- what task i has seen of one instance: all members since its accepted arrive, or the older ones of them, and no end of it among these.
-- As a line does, `during` stands newest first; at its longest it reaches the instance's end, or the line's.
pub record Instance (line : List Event) (i : ℕ) (during : List Event) : Type 0 where
  pub before : List Event
  pub arrival : Event
  pub after : List Event
  pub begun : begins i arrival ≡ true
  pub splits : line ≡ after ++ (during ++ (arrival ∷ before))
  pub lasting : NoEnd i during

-- the account that a close or a drop answers
abbrev pub account_in : Answer → Option Account
account_in Open = None
account_in Granted = None
account_in (Wait h) = None
account_in (Value v) = None
account_in Written = None
account_in (Closed a) = Some a
account_in (Dropped a) = Some a
account_in (Ran j) = None
account_in Idle = None
account_in (Refused why) = None

-- a whole instance of task i, from its accepted arrive to its accepted close or drop, which answers this account
pub record Whole (line : List Event) (i : ℕ) (during : List Event) (a : Account) : Type 0 where
  pub before : List Event
  pub arrival : Event
  pub finish : Event
  pub after : List Event
  pub begun : begins i arrival ≡ true
  pub splits : line ≡ after ++ (finish ∷ (during ++ (arrival ∷ before)))
  pub lasting : NoEnd i during
  pub over : ends i finish ≡ true
  pub answers : account_in finish.answer ≡ Some a

-- what making leaves in the cells that it was given
pub record StartValues (setup : Setup) (given left : List ℤ) : Type 0 where
  -- the cell of part p of object o holds start value p of object o
  pub of_objects : (o p : ℕ) (d : Object) → o < length setup.plan.objects → p < 4 → slice_index_or left (cell_of o p) (pos 0) ≡ slice_index_or (get_or setup.plan.objects o d).start p (pos 0)
  -- the cells past the objects' stay
  pub past_objects : (k : ℕ) → 4 * length setup.plan.objects ≤ k → slice_index_or left k (pos 0) ≡ slice_index_or given k (pos 0)
  -- and there are as many as before
  pub as_many : length left ≡ length given

-- what holds after a line of calls that began in `start` and led to s
pub record Laws (setup : Setup) (start : State) (line : List Event) (s : State) : Type 0 where
  -- a task that another waits for does not wait itself
  pub no_chain : (i h k : ℕ) → standing_at s.tasks i ≡ Waiting h → standing_at s.tasks h ≢ Waiting k
  -- where nobody runs, everybody rests
  pub somebody_runs : running s.tasks ≡ None → (i : ℕ) → standing_at s.tasks i ≡ Resting
  -- a running task that holds locks holds the newest record
  pub newest_own : (j : ℕ) (held newest : LockRecord) (older : List LockRecord) → running s.tasks ≡ Some j → ContainsAt s.locks held → held.task ≡ j → s.locks ≡ older ++ (newest ∷ []) → newest.task ≡ j
  -- no task shows more ticks used than its budget
  pub in_budget : (i : ℕ) → (task_at s.tasks i).used ≤ budget_of setup.plan i
  -- in each instance a task is told to wait at most once
  pub one_wait : (i : ℕ) (during : List Event) → Instance line i during → count (told_to_wait i) during ≤ 1
  -- all ticks that lower tasks run during an instance come from one instance of one of them: any two are the same task's, and it does not end between them
  pub one_lower : (i : ℕ) (during : List Event) → Instance line i during → (newer between older : List Event) (late early : Event) (j k : ℕ) → during ≡ newer ++ (late ∷ (between ++ (early ∷ older))) → runner late.answer ≡ Some j → i < j → runner early.answer ≡ Some k → i < k → (j ≡ k) × NoEnd j between
  -- they are no more than the task's bound
  pub bounded : (i : ℕ) (during : List Event) → Instance line i during → count (lower_ticks i) during ≤ bound setup.rule setup.plan i
  -- the cells, with the journal put back newest first, are those that the closed instances leave when run whole in the order of their closes
  pub serial_cells : put_back s.journal s.cells ≡ done (serial line) start.cells
  -- every read in that run answers what it answered in the line
  pub serial_reads : Agree (serial line) start.cells
  -- a close or drop answers the ticks that its instance ran
  pub used_counted : (i : ℕ) (during : List Event) (a : Account) → Whole line i during a → a.used ≡ count (ticks i) during
  -- and the ticks that lower tasks ran meanwhile
  pub lost_counted : (i : ℕ) (during : List Event) (a : Account) → Whole line i during a → a.lost ≡ count (lower_ticks i) during
  -- and whom they were lost to
  pub lost_to_named : (i : ℕ) (during : List Event) (a : Account) → Whole line i during a → a.lost_to ≡ last_lower i during
  -- of two records of different tasks on one object, the newer is in no mode that clashes with the older, in the order held, wanted
  pub exclusion : (older between newer : List LockRecord) (held wanted : LockRecord) → s.locks ≡ older ++ (held ∷ (between ++ (wanted ∷ newer))) → (held.task ≢ wanted.task) → held.object ≡ wanted.object → setup.rule.clashes held.mode wanted.mode ≡ false
  -- and neither lets its task write a part that the other lets its task read or write
  pub undisturbed : (p q : LockRecord) → ContainsAt s.locks p → ContainsAt s.locks q → (p.task ≢ q.task) → p.object ≡ q.object → (part : ℕ) → setup.rule.writes p.mode part ≡ true → touches setup.rule q.mode part ≡ false
  -- a task waits for a lower one, which is ready, and which holds a record whose ceiling is at most the waiter's number
  pub why_waits : (i h : ℕ) → standing_at s.tasks i ≡ Waiting h → (i < h) × (standing_at s.tasks h ≡ Ready) × BlockedBy setup s i h
  -- no instance runs more ticks than its budget, by the count of its ticks in the line
  pub ticks_in_budget : (i : ℕ) (during : List Event) → Instance line i during → count (ticks i) during ≤ budget_of setup.plan i
  -- every accepted close or drop answers an account
  pub ends_account : AllByRecursion (λ e. (i : ℕ) → ends i e ≡ true → (a : Account) × (account_in e.answer ≡ Some a)) line
  -- each answer is a refusal, or of its call's kind
  pub of_kind : AllByRecursion (λ e. AnswerOf e.call e.answer) line
  -- making gave the objects' cells their start values, and left the others
  pub start_values : (given : List ℤ) → Started setup given start → StartValues setup given start.cells
  -- no call changes how many cells there are
  pub as_many_cells : length s.cells ≡ length start.cells
  -- and what the next call, whichever it is, comes to
  pub next : Answers setup s
  -- and what its answer tells
  pub told : Accepted setup s

-- the laws hold of every line from an accepted making with this rule, whatever the plan and the room
abbrev pub LawsHold : Meaning → Type 0
LawsHold m = (setup : Setup) (cells : List ℤ) (start s : State) (line : List Event) → setup.rule ≡ m → Started setup cells start → Line setup start line s → Laws setup start line s
