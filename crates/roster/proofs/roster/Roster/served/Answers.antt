-- The bits of the places stand in one word.
use Rattle.std.proofs.Common.{◌≡◌, ◌+◌, ◌∙◌, arith, rules}
use Rattle.std.proofs.lemmas.Iterator.{YieldsList-from_range}
use Rattle.std.proofs.lemmas.Iterator.Consumers.{fold_from_yields_List}
use borrow.Author.Tests.{tests}
use Rattle.protocol.specs.Tasks.{served_from}
use Rattle.roster.proofs.ServedTasks.{with_bit, served_fold}
use Rattle.roster.proofs.roster.Roster.served.Goals as goal

pub returns : goal.returns
returns c =
    let tasks = c.args.self.now.tasks in
    let from_0 : 0 + served_from tasks 0 16 ≡ served_from tasks 0 16 = omega arith in
    fold_from_yields_List _ (with_bit tasks) 0 c.fold.result c.fold.ensures.ran (YieldsList-from_range 0 16 16 (cc) (omega arith)) (λ word k b q called. search (rules, tests))
    ∙ served_fold tasks 0 16 0 (omega arith) (omega arith) ∙ from_0
