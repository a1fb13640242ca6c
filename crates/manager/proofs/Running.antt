-- Who runs is ready, so it may be told to wait, or end. Assumes nothing.
use Rattle.std.proofs.Common.{◌≡◌, ℕ, true, ◌&&◌, ltb, List, map, length, Some, None, Option, refl, arith}
use Rattle.std.proofs.lemmas.Grind.{common_steps}
use Rattle.std.proofs.lemmas.List.{get_or-map}
use Rattle.protocol.specs.Machine.{names, wake}
use Rattle.protocol.specs.Tasks.{resting, standing_at, running}
use Rattle.protocol.specs.declared.words.Standing.TheVariants.{Ready}
use Rattle.protocol.specs.declared.words.Task.{Task}
use Rattle.protocol.proofs.Moves.{ready_there}
use Rattle.protocol.proofs.Places.{runs}
use Rattle.roster.specs.Turns.{allows}
use Rattle.roster.specs.declared.turns.Turn.TheVariants.{Wait, End}
use Rattle.manager.specs.Tests.{IsRunning}

names_ready : (tasks : List Task) (task : ℕ) → IsRunning tasks task → standing_at tasks task ≡ Ready
names_ready tasks task = go (running tasks) refl
  where
    go : (o : Option ℕ) → running tasks ≡ o → names task o ≡ true → standing_at tasks task ≡ Ready
    go None e named = grind arith
    go (Some j) e named = grind (arith, common_steps, (runs tasks j e).ready)

module _ (tasks : List Task) (task : ℕ) (whole : length tasks ≡ 16) (named : IsRunning tasks task) where
  pub may_wait : (h : ℕ) → (ltb task 16 && allows (standing_at tasks task) (Wait h)) ≡ true
  may_wait h =
      let ready = names_ready tasks task named in
      let there = ready_there tasks task ready in
      grind (arith, common_steps)

  -- waking others leaves it ready
  pub may_end : (ltb task 16 && allows (standing_at (map (wake task) tasks) task) End) ≡ true
  may_end =
      let ready = names_ready tasks task named in
      let there = ready_there tasks task ready in
      let woken = get_or-map (wake task) tasks task resting resting there in
      grind (arith, common_steps)
