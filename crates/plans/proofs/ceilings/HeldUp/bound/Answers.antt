-- The chain takes the greatest budget of the uses that delay.
use Rattle.std.proofs.Common.{rules, tests, ◌∙◌}
use Rattle.std.proofs.lemmas.Iterator.{YieldsList-from_slice, YieldsList-from_map}
use Rattle.std.proofs.lemmas.Iterator.Consumers.{YieldsList-at, YieldsList-from_filter, reduce_from_yields_List}
use Rattle.plans.specs.Ceilings.{delays}
use Rattle.plans.specs.Contents.{budget_of}
use Rattle.plans.specs.Plans.{contents}
use Rattle.plans.proofs.Reasons.{bound_by_max}
use Rattle.plans.proofs.ceilings.HeldUp.bound.Goals as goal

pub returns : goal.returns
returns g c =
    let m = g.R.LockRule.meaning c.args.self.now.rule.now in
    let plan = contents c.args.self.now.plan.now in
    let task = c.args.self.now.task in
    let greatest = reduce_from_yields_List _ _ c.max.result c.max.ensures.ran (YieldsList-from_map _ (λ u. budget_of plan u.task) (YieldsList-at c.map.ensures.source (YieldsList-from_filter _ (delays m plan.uses task) (YieldsList-from_slice plan.uses (search rules)) c.filter.ensures.closure (λ x r q k. search (rules, tests)))) c.map.ensures.closure (λ x r q k. search (rules, tests))) in
    c.unwrap_or.ensures ∙ rw greatest (bound_by_max m plan task)
