use Rattle.std.proofs.Common.{◌≡◌, ◌++◌, take, drop}
use Rattle.protocol.specs.Machine.{tick_from}
use Rattle.roster.proofs.roster.Roster.tick.Given as goal

-- those before have had the tick, the others are as they were
abbrev pub invariant-loop-k : goal.invariant-loop-k
invariant-loop-k l = l.t-items ≡ take l.k (tick_from l.running 0 l.fn.self.tasks) ++ drop l.k l.fn.self.tasks
