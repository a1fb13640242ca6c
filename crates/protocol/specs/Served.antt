-- What places are, who runs, and what the served word says of both. Assumes nothing.
use Rattle.std.specs.Prelude.{◌≡◌, ℕ, ◌/◌, ◌%◌, ◌^◌, ◌≤◌, ◌⊎◌, List, Some, None}
use Rattle.std.specs.Int.Count.{count_trailing_zeros}
use Rattle.protocol.specs.declared.words.Standing.{Standing}
use Rattle.protocol.specs.declared.words.Standing.TheVariants.{Resting, Ready, Waiting}
use Rattle.protocol.specs.declared.words.Task.{Task}
use Rattle.protocol.specs.Tasks.{standing_at, place, running, served}

-- the task that the number k names: the one that k waits for, or k itself where it does not wait
abbrev pub named_by : Standing → ℕ → ℕ
named_by Resting k = k
named_by Ready k = k
named_by (Waiting h) k = h

-- what the served word, the places and the running task have to do with each other
pub record Served (tasks : List Task) : Type 0 where
  -- a place is at most the task's own number
  pub at_most_own : (j : ℕ) → place tasks j ≤ j
  -- and at most the number of each that waits for it
  pub at_most_waiter : (j i : ℕ) → standing_at tasks i ≡ Waiting j → place tasks j ≤ i
  -- and is one of these
  pub own_or_waiter : (j : ℕ) → (place tasks j ≡ j) ⊎ (standing_at tasks (place tasks j) ≡ Waiting j)
  -- the running task is ready
  pub runs_ready : (j : ℕ) → running tasks ≡ Some j → standing_at tasks j ≡ Ready
  -- and no ready task has a smaller place
  pub runs_least : (j i : ℕ) → running tasks ≡ Some j → standing_at tasks i ≡ Ready → place tasks j ≤ place tasks i
  -- the running task's place is the lowest bit that is set
  pub lowest : (j : ℕ) → running tasks ≡ Some j → place tasks j ≡ count_trailing_zeros 16 (served tasks)
  -- where nobody runs, none is set
  pub nobody : running tasks ≡ None → served tasks ≡ 0
  -- the bit of every ready task's place is set
  pub set_bit : (j : ℕ) → standing_at tasks j ≡ Ready → served tasks / 2 ^ (place tasks j) % 2 ≡ 1
  -- and each bit that is set is the place of a ready task
  pub bit_set : (k : ℕ) → served tasks / 2 ^ k % 2 ≡ 1 → (j : ℕ) × (standing_at tasks j ≡ Ready) × (place tasks j ≡ k)
  -- the place of a ready task names that task
  pub names_its : (j : ℕ) → standing_at tasks j ≡ Ready → named_by (standing_at tasks (place tasks j)) (place tasks j) ≡ j
  -- so two ready tasks with one place are one
  pub one_each : (i j : ℕ) → standing_at tasks i ≡ Ready → standing_at tasks j ≡ Ready → place tasks i ≡ place tasks j → i ≡ j
