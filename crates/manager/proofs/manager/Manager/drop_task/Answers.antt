-- The task's images go back, and the instance ends.
use Rattle.std.proofs.Common.{rules}
use Rattle.manager.proofs.manager.Manager.drop_task.Goals as goal

pub returns : goal.returns
returns g c =
    let account = c.end.ensures.account c.args.cells.now in
    let left = c.end.ensures.state c.args.cells.now c.put_back_own.new.cells in
    search rules
