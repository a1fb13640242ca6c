-- The count lies within the sheet, so it is no negative number.
use Rattle.std.proofs.Common.{◌≡◌, length, subst, arith, w64, to_z, of_z, rules}
use Rattle.player.specs.Playing.{Plays}
use Rattle.player.specs.Numbered.{play_numbered}
use Rattle.ceiling_locks.proofs.Written.{in_signed}
use Rattle.ceiling_locks.proofs.play.Goals as goal

pub returns-clause-sheet : goal.returns-clause-sheet
returns-clause-sheet c =
    let fit : to_z w64 (of_z w64 c.args.rule) ≡ c.args.rule = search rules in
    let plays = subst (λ rule. Plays (play_numbered rule c.args.input.now (length c.args.sheet.now)) c.args.sheet.now c.play_numbered.new.sheet c.play_numbered.result) fit c.play_numbered.ensures.sheet in
    (c.play_numbered.result, plays, in_signed _ _ _ c.play_numbered.result _ c.play_numbered.auto.sheet (omega (arith, c.well_formed)) plays c.map_or_else.ensures (λ count is. search rules) (λ why is. search rules))
