-- The tests, and what comes after them.
use Rattle.std.proofs.Common.{rules}
use Rattle.manager.proofs.manager.Manager.lock.Goals as goal

pub returns : goal.returns
returns g c = λ cells. let tests = c.in_ok-may_ask.ensures.lock cells in let does = c.wait_or_grant.ensures cells in search rules
