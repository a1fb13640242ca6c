use Rattle.std.proofs.Common.{◌≡◌, ◌++◌, map, take, drop}
use Rattle.protocol.specs.Machine.{wake}
use Rattle.roster.proofs.roster.Roster.wake.Given as goal

-- those before are woken, the others are as they were
abbrev pub invariant-loop-t : goal.invariant-loop-t
invariant-loop-t l = l.t-items ≡ map (wake l.task) (take l.t-index l.fn.self.tasks) ++ drop l.t-index l.fn.self.tasks
