-- What was written stands in the sheet.
use Rattle.std.proofs.Common.{sym, arith}
use Rattle.std.proofs.lemmas.List.{length-take-le}
use Rattle.player.proofs.Plays.{plays_within}
use Rattle.tape_cases.proofs.show.Goals as goal

pub slice_bounds-write_all-end : goal.slice_bounds-write_all-end
slice_bounds-write_all-end c =
    let within = plays_within _ _ _ _ c.in-Ok.ensures.sheet in
    sym (length-take-le c.in-Ok.written c.deref.result.now (omega (arith, within)))
