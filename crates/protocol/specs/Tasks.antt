-- Who runs: standings, places, the served word. Assumes nothing.
use Rattle.std.specs.Prelude.{ℕ, zero, suc, ◌+◌, ◌^◌, min, Bool, true, false, cond, ◌&&◌, ◌||◌, List, [], ◌∷◌, Some, None, Option, ◌==◌, nat_lt, slice_index_or}
use Rattle.protocol.specs.declared.words.Standing.{Standing}
use Rattle.protocol.specs.declared.words.Standing.TheVariants.{Resting, Ready, Waiting}
use Rattle.protocol.specs.declared.words.Task.{Task}

-- how a task is kept when it has not come yet
abbrev pub resting : Task
resting = record { standing = Resting; used = 0; lost = 0; lost_to = None }

-- the record of the task with this number
abbrev pub task_at : List Task → ℕ → Task
task_at tasks k = slice_index_or tasks k resting

abbrev pub standing_at : List Task → ℕ → Standing
standing_at tasks k = (task_at tasks k).standing

abbrev pub is_ready : Standing → Bool
is_ready Resting = false
is_ready Ready = true
is_ready (Waiting h) = false

-- a task is open when it does not rest
abbrev pub is_open : Standing → Bool
is_open Resting = false
is_open Ready = true
is_open (Waiting h) = true

abbrev pub waits_for : ℕ → Standing → Bool
waits_for h Resting = false
waits_for h Ready = false
waits_for h (Waiting g) = g == h

-- the smallest of a task's number and the numbers, from k on, of those that wait for it
abbrev pub place_from : ℕ → List Task → ℕ → ℕ
place_from k [] task = task
place_from k (t ∷ ts) task = let rest = place_from (suc k) ts task in cond (waits_for task t.standing) (min k rest) rest

-- the place of a ready task
abbrev pub place : List Task → ℕ → ℕ
place tasks task = place_from 0 tasks task

-- of a ready task and the best one after it, the one with the smaller place
abbrev pub first_of : List Task → ℕ → Option ℕ → Option ℕ
first_of tasks k None = Some k
first_of tasks k (Some j) = cond (nat_lt (place tasks j) (place tasks k)) (Some j) (Some k)

-- the ready task with the smallest place, among those from k on
abbrev pub running_from : List Task → ℕ → List Task → Option ℕ
running_from tasks k [] = None
running_from tasks k (t ∷ ts) = let rest = running_from tasks (suc k) ts in cond (is_ready t.standing) (first_of tasks k rest) rest

-- the running task
abbrev pub running : List Task → Option ℕ
running tasks = running_from tasks 0 tasks

-- some ready task, among those from k on, has this place
abbrev pub has_place : List Task → ℕ → ℕ → List Task → Bool
has_place tasks p k [] = false
has_place tasks p k (t ∷ ts) = (is_ready t.standing && place tasks k == p) || has_place tasks p (suc k) ts

-- the bits from k on of the served word, n of them: bit k is set when some ready task has place k
abbrev pub served_from : List Task → ℕ → ℕ → ℕ
served_from tasks k zero = 0
served_from tasks k (suc n) = cond (has_place tasks k 0 tasks) (2 ^ k) 0 + served_from tasks (suc k) n

-- the served word has 16 bits
abbrev pub served : List Task → ℕ
served tasks = served_from tasks 0 16
