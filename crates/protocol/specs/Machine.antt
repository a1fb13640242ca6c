-- The machine: what each call answers, and what it leaves. docs/PROTOCOL.md says the same in words. Assumes nothing.
use Rattle.std.specs.Prelude.{ℕ, suc, ◌+◌, ◌*◌, min, Bool, false, cond, not, ◌&&◌, ◌||◌, List, [], ◌∷◌, ◌++◌, map, length, drop, replicate, ℤ, pos, Some, None, filter, Option, ◌==◌, nat_le, nat_lt, slice_index_or, slice_set}
use Rattle.std.specs.List.{flat_map}
use Rattle.rules.specs.Meaning.{Meaning, is_part}
use Rattle.plans.specs.Contents.{Contents, budget_of}
use Rattle.plans.specs.Ceilings.{ceiling}
use Rattle.plans.specs.declared.parts.Object.{Object}
use Rattle.plans.specs.declared.parts.Use.{Use}
use Rattle.plans.specs.declared.refusal.Refusal.{Refusal}
use Rattle.plans.specs.declared.refusal.Refusal.TheVariants.{FewCells, NumberNotThere, AlreadyOpen, NotRunning, NoSuchUse, AlreadyHeld, LocksFull, NotCovered, JournalFull, BudgetSpent}
use Rattle.protocol.specs.declared.words.Standing.{Standing}
use Rattle.protocol.specs.declared.words.Standing.TheVariants.{Resting, Ready, Waiting}
use Rattle.protocol.specs.declared.words.Task.{Task}
use Rattle.protocol.specs.declared.words.LockRecord.{LockRecord}
use Rattle.protocol.specs.declared.words.Image.{Image}
use Rattle.protocol.specs.declared.words.Call.{Call}
use Rattle.protocol.specs.declared.words.Call.TheVariants.{Arrive, Lock, Read, Write, Close, Drop, Tick}
use Rattle.protocol.specs.declared.words.Account.{Account}
use Rattle.protocol.specs.declared.words.Answer.{Answer}
use Rattle.protocol.specs.declared.words.Answer.TheVariants.{Open, Granted, Wait, Value, Written, Closed, Dropped, Ran, Idle, Refused}
use Rattle.protocol.specs.Tasks.{resting, task_at, standing_at, is_open, waits_for, running}

-- what stays the same over a line of calls: the rule, the plan, and how many records each stack has room for
pub record Setup : Type 0 where
  pub rule : Meaning
  pub plan : Contents
  pub lock_room : ℕ
  pub journal_room : ℕ

-- what calls change; both stacks stand oldest first
pub record State : Type 0 where
  pub tasks : List Task
  pub locks : List LockRecord
  pub journal : List Image
  pub cells : List ℤ

-- what a call answers and leaves
pub record Outcome : Type 0 where
  pub answer : Answer
  pub left : State

-- a refusal leaves everything as found
abbrev pub refuse : State → Refusal → Outcome
refuse s why = record { answer = Refused why; left = s }

-- some element passes
abbrev pub any : {X : Type 0} → (X → Bool) → List X → Bool
any p [] = false
any p (x ∷ xs) = p x || any p xs

-- ---- what the checks ask

abbrev pub has_task : Setup → ℕ → Bool
has_task setup task = nat_lt task (length setup.plan.rows)

abbrev pub has_object : Setup → ℕ → Bool
has_object setup object = nat_lt object (length setup.plan.objects)

abbrev pub has_mode : Setup → ℕ → Bool
has_mode setup mode = nat_lt mode setup.rule.modes

-- there are 128 cells, four for each of at most 32 objects
abbrev pub few_cells : State → Bool
few_cells s = nat_lt (length s.cells) 128

abbrev pub names : ℕ → Option ℕ → Bool
names task None = false
names task (Some j) = j == task

abbrev pub is_running : State → ℕ → Bool
is_running s task = names task (running s.tasks)

abbrev pub is_use : ℕ → ℕ → ℕ → Use → Bool
is_use task object mode u = u.task == task && (u.object == object && u.mode == mode)

abbrev pub is_record : ℕ → ℕ → ℕ → LockRecord → Bool
is_record task object mode r = r.task == task && (r.object == object && r.mode == mode)

-- the record is this task's, of this object, in a mode that passes
abbrev pub covers : (ℕ → Bool) → ℕ → ℕ → LockRecord → Bool
covers mode_passes task object r = r.task == task && (r.object == object && mode_passes r.mode)

-- some lock of the task lets it read the part
abbrev pub may_read : Setup → State → ℕ → ℕ → ℕ → Bool
may_read setup s task object part = any (covers (λ mode. setup.rule.reads mode part) task object) s.locks

-- some lock of the task lets it write the part
abbrev pub may_write : Setup → State → ℕ → ℕ → ℕ → Bool
may_write setup s task object part = any (covers (λ mode. setup.rule.writes mode part) task object) s.locks

-- ---- what calls change

-- a change of one task's record
abbrev pub change : (Task → Task) → List Task → ℕ → List Task
change f tasks k = slice_set tasks k (f (task_at tasks k))

abbrev pub stand : Standing → Task → Task
stand standing t = record { standing = standing; used = t.used; lost = t.lost; lost_to = t.lost_to }

-- arrival begins anew
abbrev pub arrived : Task
arrived = record { standing = Ready; used = 0; lost = 0; lost_to = None }

-- one that waits for the task becomes ready
abbrev pub wake : ℕ → Task → Task
wake h t = cond (waits_for h t.standing) (stand Ready t) t

abbrev pub use_tick : Task → Task
use_tick t = record { standing = t.standing; used = t.used + 1; lost = t.lost; lost_to = t.lost_to }

-- lost stops at 65,535, the greatest number of 16 bits
abbrev pub lose_tick : ℕ → Task → Task
lose_tick j t = record { standing = t.standing; used = t.used; lost = min (t.lost + 1) 65535; lost_to = Some j }

-- what a tick that j runs does to the record of task k: an open task above j loses it
abbrev pub ticked : ℕ → ℕ → Task → Task
ticked j k t = cond (k == j) (use_tick t) (cond (nat_lt k j && is_open t.standing) (lose_tick j t) t)

-- the same, to the records from k on
abbrev pub tick_from : ℕ → ℕ → List Task → List Task
tick_from j k [] = []
tick_from j k (t ∷ ts) = ticked j k t ∷ tick_from j (suc k) ts

abbrev pub lock_ceiling : Setup → LockRecord → ℕ
lock_ceiling setup r = ceiling setup.rule setup.plan.uses r.object r.mode

-- another task has the record, and its ceiling is at most the caller's own number
abbrev pub blocks : Setup → ℕ → LockRecord → Bool
blocks setup task r = not (r.task == task) && nat_le (lock_ceiling setup r) task

-- the first if there is one, else the second
abbrev pub or_else : {X : Type 0} → Option X → Option X → Option X
or_else None y = y
or_else (Some x) y = Some x

-- the task of the newest record that passes
abbrev pub newest_task : (LockRecord → Bool) → List LockRecord → Option ℕ
newest_task p [] = None
newest_task p (r ∷ rs) = or_else (newest_task p rs) (cond (p r) (Some r.task) None)

-- the cell of a part
abbrev pub cell_of : ℕ → ℕ → ℕ
cell_of object part = 4 * object + part

-- a cell's old value is put back, the newest image first
abbrev pub put_back : List Image → List ℤ → List ℤ
put_back [] cells = cells
put_back (i ∷ is) cells = slice_set (put_back is cells) i.cell i.old

abbrev pub own_image : ℕ → Image → Bool
own_image task i = i.task == task

abbrev pub own_lock : ℕ → LockRecord → Bool
own_lock task r = r.task == task

-- the task rests, its counts kept; its locks and images leave, and those that wait for it become ready
abbrev pub ended : State → ℕ → List ℤ → State
ended s task cells = record {
  tasks = change (stand Resting) (map (wake task) s.tasks) task;
  locks = filter (λ r. not (own_lock task r)) s.locks;
  journal = filter (λ i. not (own_image task i)) s.journal;
  cells = cells;
}

abbrev pub account_of : State → ℕ → Account
account_of s task = record { used = (task_at s.tasks task).used; lost = (task_at s.tasks task).lost; lost_to = (task_at s.tasks task).lost_to }

-- ---- making, and the calls; the checks stand in their order

-- the objects' cells take their start values, the others stay; the stacks are empty and all tasks rest
abbrev pub made : Setup → List ℤ → State
made setup cells = let starts = flat_map (λ (o : Object). o.start) setup.plan.objects in record {
  tasks = replicate 16 resting;
  locks = [];
  journal = [];
  cells = starts ++ drop (length starts) cells;
}

abbrev pub arrive : Setup → State → ℕ → Outcome
arrive setup s task =
    cond (not (has_task setup task)) (refuse s NumberNotThere)
    (cond (is_open (standing_at s.tasks task)) (refuse s AlreadyOpen)
    (record { answer = Open; left = record { tasks = change (λ _. arrived) s.tasks task; locks = s.locks; journal = s.journal; cells = s.cells } }))

-- where the task h has the newest blocking record, the caller waits for it; else the record becomes the newest
abbrev pub wait_or_grant : Setup → State → ℕ → ℕ → ℕ → Option ℕ → Outcome
wait_or_grant setup s task object mode (Some h) = record {
  answer = Wait h;
  left = record { tasks = change (stand (Waiting h)) s.tasks task; locks = s.locks; journal = s.journal; cells = s.cells };
}
wait_or_grant setup s task object mode None =
    cond (nat_lt (length s.locks) setup.lock_room)
    (record {
      answer = Granted;
      left = record { tasks = s.tasks; locks = s.locks ++ (record { task = task; object = object; mode = mode } ∷ []); journal = s.journal; cells = s.cells };
    })
    (refuse s LocksFull)

abbrev pub lock : Setup → State → ℕ → ℕ → ℕ → Outcome
lock setup s task object mode =
    cond (not (has_task setup task && (has_object setup object && has_mode setup mode))) (refuse s NumberNotThere)
    (cond (not (is_running s task)) (refuse s NotRunning)
    (cond (not (any (is_use task object mode) setup.plan.uses)) (refuse s NoSuchUse)
    (cond (any (is_record task object mode) s.locks) (refuse s AlreadyHeld)
    (wait_or_grant setup s task object mode (newest_task (blocks setup task) s.locks)))))

abbrev pub read : Setup → State → ℕ → ℕ → ℕ → Outcome
read setup s task object part =
    cond (few_cells s) (refuse s FewCells)
    (cond (not (has_task setup task && (has_object setup object && is_part part))) (refuse s NumberNotThere)
    (cond (not (is_running s task)) (refuse s NotRunning)
    (cond (not (may_read setup s task object part)) (refuse s NotCovered)
    (record { answer = Value (slice_index_or s.cells (cell_of object part) (pos 0)); left = s }))))

abbrev pub write : Setup → State → ℕ → ℕ → ℕ → ℤ → Outcome
write setup s task object part value =
    cond (few_cells s) (refuse s FewCells)
    (cond (not (has_task setup task && (has_object setup object && is_part part))) (refuse s NumberNotThere)
    (cond (not (is_running s task)) (refuse s NotRunning)
    (cond (not (may_write setup s task object part)) (refuse s NotCovered)
    (cond (not (nat_lt (length s.journal) setup.journal_room)) (refuse s JournalFull)
    (let cell = cell_of object part in record {
      answer = Written;
      left = record { tasks = s.tasks; locks = s.locks; journal = s.journal ++ (record { task = task; cell = cell; old = slice_index_or s.cells cell (pos 0) } ∷ []); cells = slice_set s.cells cell value };
    })))))

abbrev pub close : Setup → State → ℕ → Outcome
close setup s task =
    cond (not (has_task setup task)) (refuse s NumberNotThere)
    (cond (not (is_running s task)) (refuse s NotRunning)
    (record { answer = Closed (account_of s task); left = ended s task s.cells }))

abbrev pub drop_task : Setup → State → ℕ → Outcome
drop_task setup s task =
    cond (few_cells s) (refuse s FewCells)
    (cond (not (has_task setup task)) (refuse s NumberNotThere)
    (cond (not (is_running s task)) (refuse s NotRunning)
    (record { answer = Dropped (account_of s task); left = ended s task (put_back (filter (own_image task) s.journal) s.cells) })))

-- a tick is the running task's, as long as its budget lasts
abbrev pub tick_of : Setup → State → Option ℕ → Outcome
tick_of setup s None = record { answer = Idle; left = s }
tick_of setup s (Some j) =
    cond (nat_lt (task_at s.tasks j).used (budget_of setup.plan j))
    (record { answer = Ran j; left = record { tasks = tick_from j 0 s.tasks; locks = s.locks; journal = s.journal; cells = s.cells } })
    (refuse s BudgetSpent)

abbrev pub tick : Setup → State → Outcome
tick setup s = tick_of setup s (running s.tasks)

-- one call
abbrev pub step : Setup → State → Call → Outcome
step setup s (Arrive task) = arrive setup s task
step setup s (Lock task object mode) = lock setup s task object mode
step setup s (Read task object part) = read setup s task object part
step setup s (Write task object part value) = write setup s task object part value
step setup s (Close task) = close setup s task
step setup s (Drop task) = drop_task setup s task
step setup s Tick = tick setup s
