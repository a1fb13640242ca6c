-- The task that the number names is the only one whose place it can be.
use Rattle.std.proofs.Common.{arith}
use Rattle.std.proofs.lemmas.Grind.{common_steps}
use Rattle.roster.proofs.ServedTasks.{place_of_named}
use Rattle.roster.proofs.roster.Roster.is_place.Goals as goal

pub returns-then-eq : goal.returns-then-eq
returns-then-eq c = grind (arith, common_steps, place_of_named c.args.self.now.tasks c.args.self.now.whole c.args.k)

pub returns-else-eq : goal.returns-else-eq
returns-else-eq c = grind (arith, common_steps, place_of_named c.args.self.now.tasks c.args.self.now.whole c.args.k)
