-- The call is a step, so it makes the line longer by one.
use Rattle.std.proofs.Common.{refl, rules}
use Rattle.manager.specs.View.{setup_of, view}
use Rattle.manager.proofs.LineLaws.{leads_on}
use Rattle.manager.proofs.manager.Manager.call.Goals as goal

pub returns-clause-laws : goal.returns-clause-laws
returns-clause-laws g c =
    let before = c.args.self.now in
    leads_on (g.R.LockRule.meaning before.rule) (g.met.R.LockRule.lawful before.rule) (setup_of g.R.LockRule.meaning before) refl (view before c.args.cells.now) (view c.try_call.new.self c.try_call.new.cells) c.args.call c.unwrap_or_else.result (search rules) c.try_call.ensures.leaves
