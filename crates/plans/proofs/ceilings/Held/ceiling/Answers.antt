-- The chain folds the uses, and takes the task of those that are excluded.
use Rattle.std.proofs.Common.{min, cond, rules, tests, ◌∙◌}
use Rattle.std.proofs.lemmas.Iterator.{YieldsList-from_slice}
use Rattle.std.proofs.lemmas.Iterator.Consumers.{fold_from_yields_List}
use Rattle.plans.specs.Ceilings.{excluded}
use Rattle.plans.proofs.Reasons.{ceiling_by_min}
use Rattle.plans.proofs.ceilings.Held.ceiling.Goals as goal

pub returns : goal.returns
returns g c =
    let m = g.R.LockRule.meaning c.args.self.now.rule.now in
    let held = c.args.self.now in
    fold_from_yields_List _ (λ a u. cond (excluded m held.object held.mode u) (min a u.task) a) 16 _ c.fold.ensures.ran (YieldsList-from_slice c.args.uses.now cc) (λ a x b q k. search (rules, tests)) ∙ ceiling_by_min m held.object held.mode c.args.uses.now
