-- The sheet is filled as far as the tape was played, and what is to come leads to the state that all of it leads to.
use Rattle.std.proofs.Common.{◌≡◌}
use Rattle.player.specs.Players.{setup, state}
use Rattle.tape.specs.Items.{to_come}
use Rattle.player.specs.Playing.{play_sheet, play_state}
use Rattle.player.proofs.Filling.{Filling}
use Rattle.player.proofs.player.Player.play_lines.Given as goal

abbrev pub invariant-loop-item : goal.invariant-loop-item
invariant-loop-item g l =
    let fixed = setup g.R.LockRule.meaning l.initial.self in
    let start = state l.initial.self in
    (setup g.R.LockRule.meaning l.self ≡ fixed)
    × Filling fixed l.initial.sheet l.sheet l.at (state l.self) (to_come l.item-iterator) (play_sheet fixed start (to_come l.initial.item-iterator))
    × (play_state fixed (state l.self) (to_come l.item-iterator) ≡ play_state fixed start (to_come l.initial.item-iterator))
    × ((goal.iterator-loop-item g).can_next l.item-iterator × (goal.iterator-loop-item g).is_finite l.item-iterator)
