-- Each call does what the machine says of it, also with these cells.
use Rattle.std.proofs.Common.{rules}
use Rattle.manager.proofs.manager.Manager.try_call.Goals as goal

pub returns-in-Arrive : goal.returns-in-Arrive
returns-in-Arrive g c = let does = c.arrive.ensures c.args.cells.now in search rules

pub returns-in-Lock : goal.returns-in-Lock
returns-in-Lock g c = let does = c.lock.ensures c.args.cells.now in search rules

pub returns-in-Close : goal.returns-in-Close
returns-in-Close g c = let does = c.close.ensures c.args.cells.now in search rules

pub returns-in-Tick : goal.returns-in-Tick
returns-in-Tick g c = let does = c.tick.ensures c.args.cells.now in search rules
