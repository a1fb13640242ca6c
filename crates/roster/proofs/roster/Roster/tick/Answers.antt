-- One task more has had the tick.
use Rattle.std.proofs.Common.{arith}
use Rattle.std.proofs.lemmas.Grind.{common_steps}
use Rattle.protocol.proofs.Moves.{length_ticked}
use Rattle.roster.proofs.Ticks.{next_as_was, tick_more, tick_done}
use Rattle.roster.proofs.roster.Roster.tick.Goals as goal

pub after_tick-requires : goal.after_tick-requires
after_tick-requires c = grind (arith, common_steps, next_as_was)

pub loop-k-preserved : goal.loop-k-preserved
loop-k-preserved c = grind (arith, common_steps, next_as_was, tick_more)

pub invariant_of-self : goal.invariant_of-self
invariant_of-self c = grind (arith, common_steps, tick_done, length_ticked)

pub returns-clause-tasks : goal.returns-clause-tasks
returns-clause-tasks c = tick_done c.args.running c.loop-k.k c.args.self.now.tasks c.loop-k.t-items c.loop-k.invariant (omega arith)
