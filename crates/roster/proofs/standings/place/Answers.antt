-- The first that waits for the task is the lowest.
use Rattle.std.proofs.Common.{◌≡◌, arith, rules}
use Rattle.std.proofs.lemmas.Grind.{common_steps}
use Rattle.std.proofs.lemmas.Iterator.{YieldsList-from_slice}
use Rattle.std.proofs.lemmas.Iterator.Search.{position_from_yields_List}
use borrow.Author.Tests.{tests}
use Rattle.std.specs.List.{position}
use Rattle.protocol.specs.Tasks.{waits_for}
use Rattle.protocol.specs.declared.words.Task.{Task}
use Rattle.roster.proofs.ServedTasks.{place_first}
use Rattle.roster.proofs.standings.place.Goals as goal

pub returns : goal.returns
returns c =
    let first : c.position-first.result ≡ position (λ (t : Task). waits_for c.args.task t.standing) c.args.tasks.now = position_from_yields_List (λ (t : Task). waits_for c.args.task t.standing) _ _ c.position-first.result c.position-first.ensures.ran (YieldsList-from_slice c.args.tasks.now cc) (λ x b q k. search (rules, tests)) in
    grind (arith, common_steps, first, place_first c.args.tasks.now c.args.task)
