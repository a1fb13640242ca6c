-- What is left of a call once its tests are made. Assumes nothing.
use Rattle.std.specs.Prelude.{◌≡◌, ℕ, true, cond, not, ◌&&◌, List, length, ℤ, Ok, Err, Result, nat_lt}
use Rattle.rules.specs.Meaning.{is_part}
use Rattle.plans.specs.declared.refusal.Refusal.{Refusal}
use Rattle.plans.specs.declared.refusal.Refusal.TheVariants.{FewCells, NumberNotThere, NotRunning}
use Rattle.protocol.specs.Machine.{Setup, State, Outcome, refuse, has_task, has_object, few_cells, names, is_running, wait_or_grant, newest_task, blocks}
use Rattle.protocol.specs.Tasks.{running}
use Rattle.protocol.specs.declared.words.LockRecord.{LockRecord}
use Rattle.protocol.specs.declared.words.Task.{Task}

-- a test's refusal, or else what comes after it
abbrev pub after : {X : Type 0} → State → Result X Refusal → Outcome → Outcome
after s (Ok x) next = next
after s (Err why) next = refuse s why

-- the task is the one that runs
abbrev pub IsRunning : List Task → ℕ → Type 0
IsRunning tasks task = names task (running tasks) ≡ true

-- whether there are enough cells
abbrev pub few : List ℤ → Result (Unit {0}) Refusal
few cells = cond (nat_lt (length cells) 128) (Err FewCells) (Ok tt)

-- whether a task may make a call of its own
abbrev pub own : Setup → List Task → ℕ → Result (Unit {0}) Refusal
own setup tasks task = cond (has_task setup task) (cond (names task (running tasks)) (Ok tt) (Err NotRunning)) (Err NumberNotThere)

-- a lock whose tests passed
abbrev pub asked : Setup → State → LockRecord → Outcome
asked setup s r = wait_or_grant setup s r.task r.object r.mode (newest_task (blocks setup r.task) s.locks)

-- a read or a write: the tests that both make, and what comes after them
abbrev pub reach : Setup → State → ℕ → ℕ → ℕ → Outcome → Outcome
reach setup s task object part next =
    cond (few_cells s) (refuse s FewCells)
    (cond (not (has_task setup task && (has_object setup object && is_part part))) (refuse s NumberNotThere)
    (cond (not (is_running s task)) (refuse s NotRunning) next))
