-- The instance ends, whatever the cells are.
use Rattle.std.proofs.Common.{rules}
use Rattle.manager.proofs.manager.Manager.close.Goals as goal

pub returns : goal.returns
returns g c = λ cells. let account = c.end.ensures.account cells in let left = c.end.ensures.state cells cells in search rules
