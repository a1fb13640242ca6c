-- The kinds of outcome that the laws tell apart: nothing of note, an arrival, a wait, a grant, an end, a tick.
use Rattle.std.proofs.Common.{◌≡◌, ℕ, ◌<◌, ◌≤◌, true, false, not, ◌&&◌, eqb, leb, List, [], ◌∷◌, ◌++◌, map, length, Some, None, Decides, filter, refl, inl, inr}
use Rattle.std.specs.List.{ContainsAt}
use Rattle.std.proofs.lemmas.Bool.{eqb-true, eq-eqb, eqb-false, leb-true, leb-false, and_parts, and_from, and_cases, and_right, not-true, not-false}
use Rattle.plans.specs.Contents.{budget_of}
use Rattle.plans.specs.declared.parts.Use.{Use}
use Rattle.protocol.specs.declared.words.Standing.TheVariants.{Resting, Waiting}
use Rattle.protocol.specs.declared.words.Task.{Task}
use Rattle.protocol.specs.declared.words.LockRecord.{LockRecord}
use Rattle.protocol.specs.declared.words.Call.{Call}
use Rattle.protocol.specs.declared.words.Call.TheVariants.{Arrive, Lock, Tick}
use Rattle.protocol.specs.declared.words.Answer.TheVariants.{Open, Wait, Ran, Refused}
use Rattle.protocol.specs.Tasks.{task_at, standing_at, running}
use Rattle.protocol.specs.Machine.{Setup, State, Outcome, step, names, any, is_use, blocks, lock_ceiling, change, stand, arrived, wake, own_lock, tick_from, account_of}
use Rattle.protocol.specs.Lines.{Event, arriving, ending, locking, begins, ends, told_to_wait, runner}
use Rattle.protocol.specs.Laws.{account_in}
use Rattle.protocol.proofs.Lists.{has_any}
use Rattle.protocol.proofs.Steps.{Step, step_is}

-- the plan has a use for the lock
pub record Planned (setup : Setup) (r : LockRecord) : Type 0 where
  pub entry : Use
  pub listed : ContainsAt setup.plan.uses entry
  pub of_task : entry.task ≡ r.task
  pub of_object : entry.object ≡ r.object
  pub of_mode : entry.mode ≡ r.mode

-- the lock is another task's, and its ceiling is at most the task's number
pub record Blocks (setup : Setup) (task : ℕ) (b : LockRecord) : Type 0 where
  pub other : b.task ≡ task → ⊥
  pub reaches : lock_ceiling setup b ≤ task

-- a member of a line by which nobody arrives, is told to wait, or runs a tick
pub record Quiet (e : Event) : Type 0 where
  pub no_begin : (i : ℕ) → begins i e ≡ false
  pub no_wait : (i : ℕ) → told_to_wait i e ≡ false
  pub no_tick : runner e.answer ≡ None

-- the tasks that the end of task j leaves
abbrev pub after_end : ℕ → List Task → List Task
after_end j tasks = change (stand Resting) (map (wake j) tasks) j

-- the member that a call on s adds to a line
abbrev pub member : Setup → State → Call → Event
member setup s c = record { call = c; answer = (step setup s c).answer }

-- the kind of a member, with the tasks and the locks that it leaves
pub data Kind (setup : Setup) (s : State) : Event → List Task → List LockRecord → Type 0 where
  -- a refusal, a read, a write, an idle tick
  quiet : (e : Event) → Quiet e → ((i : ℕ) → ends i e ≡ false) → Kind setup s e s.tasks s.locks
  arrives : (task : ℕ) → task < length setup.plan.rows → standing_at s.tasks task ≡ Resting → Kind setup s (record { call = Arrive task; answer = Open }) (change (λ _. arrived) s.tasks task) s.locks
  -- the running task is blocked by the lock b
  waits : (task object mode : ℕ) (b : LockRecord) → running s.tasks ≡ Some task → ContainsAt s.locks b → Blocks setup task b → Kind setup s (record { call = Lock task object mode; answer = Wait b.task }) (change (stand (Waiting b.task)) s.tasks task) s.locks
  -- the running task gets the lock r, which no lock of another task blocks
  grants : (e : Event) (r : LockRecord) → Quiet e → ((i : ℕ) → ends i e ≡ false) → running s.tasks ≡ Some r.task → Planned setup r → ((b : LockRecord) → ContainsAt s.locks b → (b.task ≡ r.task → ⊥) → r.task < lock_ceiling setup b) → Kind setup s e s.tasks (s.locks ++ r ∷ [])
  -- the running task closes or drops
  finishes : (e : Event) (j : ℕ) → Quiet e → ((i : ℕ) → Decides (ends i e) (j ≡ i)) → account_in e.answer ≡ Some (account_of s j) → running s.tasks ≡ Some j → Kind setup s e (after_end j s.tasks) (filter (λ r. not (own_lock j r)) s.locks)
  -- the running task runs a tick
  runs : (j : ℕ) → running s.tasks ≡ Some j → (task_at s.tasks j).used < budget_of setup.plan j → Kind setup s (record { call = Tick; answer = Ran j }) (tick_from j 0 s.tasks) s.locks

-- ---- every outcome is of one kind

-- the use of the plan that a lock asks for
pub use_planned : (setup : Setup) (task object mode : ℕ) → any (is_use task object mode) setup.plan.uses ≡ true → Planned setup (record { task = task; object = object; mode = mode })
use_planned setup task object mode t =
    let (u, i, e) = has_any (is_use task object mode) setup.plan.uses t in
    let (e1, e2) = and_parts (eqb u.task task) (eqb u.object object && eqb u.mode mode) e in
    let (e3, e4) = and_parts (eqb u.object object) (eqb u.mode mode) e2 in
    record { entry = u; listed = i; of_task = eqb-true u.task task e1; of_object = eqb-true u.object object e3; of_mode = eqb-true u.mode mode e4 }

-- what the test for blocking tells
pub blocks_true : (setup : Setup) (task : ℕ) (b : LockRecord) → blocks setup task b ≡ true → Blocks setup task b
blocks_true setup task b t =
    let (n, l) = and_parts (not (eqb b.task task)) (leb (lock_ceiling setup b) task) t in
    record { other = eqb-false b.task task (not-true (eqb b.task task) n); reaches = leb-true (lock_ceiling setup b) task l }

-- a lock that does not block the task, and is another's, has a ceiling above it
pub blocks_false : (setup : Setup) (task : ℕ) (b : LockRecord) → blocks setup task b ≡ false → (b.task ≡ task → ⊥) → task < lock_ceiling setup b
blocks_false setup task b f other = elim (and_cases (not (eqb b.task task)) (leb (lock_ceiling setup b) task) f) [
  | inl own ↦ absurd (other (eqb-true b.task task (not-false (eqb b.task task) own)))
  | inr l ↦ leb-false (lock_ceiling setup b) task l
]

-- a refusal is quiet
quiet_refusal : (c : Call) (why : _) → Quiet (record { call = c; answer = Refused why })
quiet_refusal c why = record { no_begin = λ i. and_right (names i (arriving c)) false refl; no_wait = λ i. and_right (names i (locking c)) false refl; no_tick = refl }

-- a close or a drop of j ends j and nobody else
ends_one : (i j : ℕ) → Decides (eqb j i && true) (j ≡ i)
ends_one i j = (λ e. eqb-true j i (and_parts (eqb j i) true e).0, λ e. and_from (eqb j i) true (eq-eqb j i e) refl)

-- a wait for the task h, which has the blocking lock
wait_kind : (setup : Setup) (s : State) (task object mode h : ℕ) (b : LockRecord) → running s.tasks ≡ Some task → ContainsAt s.locks b → b.task ≡ h → Blocks setup task b → Kind setup s (record { call = Lock task object mode; answer = Wait h }) (change (stand (Waiting h)) s.tasks task) s.locks
wait_kind setup s task object mode h b run held own t = rw (← own) (waits task object mode b run held t)

-- each outcome has its kind
kind_of : (setup : Setup) (s : State) (c : Call) (o : Outcome) → Step setup s c o → Kind setup s (record { call = c; answer = o.answer }) o.left.tasks o.left.locks
kind_of setup s c o (Step.refuses _ why) = quiet _ (quiet_refusal c why) (λ i. and_right (names i (ending c)) false refl)
kind_of setup s c o (Step.arrives task there rest) = arrives task there rest
kind_of setup s c o (Step.waits task object mode h b run is_planned not_held held own t) = wait_kind setup s task object mode h b run held own (blocks_true setup task b t)
kind_of setup s c o (Step.grants task object mode run is_planned not_held free room) = grants _ (record { task = task; object = object; mode = mode })
    (record { no_begin = λ i. refl; no_wait = λ i. and_right (eqb task i) false refl; no_tick = refl }) (λ i. refl) run (use_planned setup task object mode is_planned) (λ b i other. blocks_false setup task b (free b i) other)
kind_of setup s c o (Step.reads task object part run may) = quiet _ (record { no_begin = λ i. refl; no_wait = λ i. refl; no_tick = refl }) (λ i. refl)
kind_of setup s c o (Step.writes task object part value run may room) = quiet _ (record { no_begin = λ i. refl; no_wait = λ i. refl; no_tick = refl }) (λ i. refl)
kind_of setup s c o (Step.closes task run) = finishes _ task (record { no_begin = λ i. refl; no_wait = λ i. refl; no_tick = refl }) (λ i. ends_one i task) refl run
kind_of setup s c o (Step.drops task run) = finishes _ task (record { no_begin = λ i. refl; no_wait = λ i. refl; no_tick = refl }) (λ i. ends_one i task) refl run
kind_of setup s c o (Step.ticks j run less) = runs j run less
kind_of setup s c o (Step.idles nobody) = quiet _ (record { no_begin = λ i. refl; no_wait = λ i. refl; no_tick = refl }) (λ i. refl)

-- every call is of one kind
pub kind : (setup : Setup) (s : State) (c : Call) → Kind setup s (member setup s c) (step setup s c).left.tasks (step setup s c).left.locks
kind setup s c = kind_of setup s c (step setup s c) (step_is setup s c)
