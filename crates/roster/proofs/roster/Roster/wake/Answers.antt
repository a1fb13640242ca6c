-- One task more is woken.
use Rattle.std.proofs.Common.{arith}
use Rattle.std.proofs.lemmas.Grind.{common_steps}
use Rattle.std.proofs.lemmas.List.Edits.{map_over_more}
use Rattle.std.proofs.lemmas.List.{take_all, drop_all}
use Rattle.protocol.specs.Machine.{wake}
use Rattle.roster.proofs.roster.Roster.wake.Goals as goal

pub loop-t-preserved : goal.loop-t-preserved
loop-t-preserved c = grind (arith, common_steps, map_over_more (wake c.args.task))

pub returns : goal.returns
returns c = grind (arith, common_steps, take_all, drop_all)
