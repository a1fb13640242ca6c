-- A tick goes over the tasks, one after the other. Assumes nothing.
use Rattle.std.proofs.Common.{◌≡◌, ℕ, ◌+◌, ◌<◌, ◌≤◌, List, [], ◌∷◌, ◌++◌, length, take, drop, set, sym, ◌∙◌, arith}
use Rattle.std.proofs.lemmas.Grind.{common_steps}
use Rattle.std.proofs.lemmas.List.{append_assoc, length-take-le, take_more, drop_more, drop_all, take_all, set_at}
use Rattle.protocol.specs.Machine.{ticked, tick_from}
use Rattle.protocol.specs.Tasks.{resting, task_at}
use Rattle.protocol.specs.declared.words.Task.{Task}
use Rattle.protocol.proofs.Moves.{ticked_at, length_ticked}

module _ (j k : ℕ) (before now : List Task) (so_far : now ≡ take k (tick_from j 0 before) ++ drop k before) where
  -- the next task is as it was
  pub next_as_was : k < length before → task_at now k ≡ task_at before k
  next_as_was l = grind (arith, common_steps, length_ticked j 0 before, so_far)

  pub tick_more : k < length before → (t : Task) → t ≡ ticked j k (task_at before k) → set now k t ≡ take (k + 1) (tick_from j 0 before) ++ drop (k + 1) before
  tick_more l t e =
      let here : task_at (tick_from j 0 before) k ≡ t = ticked_at j 0 before k k (omega arith) (λ _. l) ∙ sym e in
      let long = length_ticked j 0 before in
      let front = take_more (tick_from j 0 before) k resting (omega (arith, long)) in
      let back = drop_more before k resting l in
      rw (so_far, front, back, here) (set_at (take k (tick_from j 0 before)) (task_at before k) (drop (k + 1) before) t k (length-take-le k (tick_from j 0 before) (omega (arith, long))) ∙ sym (append_assoc (take k (tick_from j 0 before)) (t ∷ []) (drop (k + 1) before)))

  pub tick_done : length before ≤ k → now ≡ tick_from j 0 before
  tick_done past = let long = length_ticked j 0 before in grind (arith, common_steps, drop_all, take_all, so_far)
