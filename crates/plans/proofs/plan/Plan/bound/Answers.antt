-- Value and reason are those of the definition, and so they keep the law.
use Rattle.std.proofs.Common.{◌≡◌, true, ltb, length, ◌∙◌, rules, tests}
use Rattle.std.proofs.lemmas.Bool.{lt-ltb}
use Rattle.std.proofs.lemmas.Iterator.{YieldsList-from_slice}
use Rattle.std.proofs.lemmas.Iterator.Search.{find_from_yields_List}
use Rattle.plans.specs.Ceilings.{bound, bound_reason, costs}
use Rattle.plans.specs.Plans.{contents}
use Rattle.plans.proofs.Reasons.{bound_law}
use Rattle.plans.proofs.plan.Plan.bound.Goals as goal

pub returns : goal.returns
returns g c =
    let m = g.R.LockRule.meaning c.args.rule.now in
    let plan = contents c.args.self.now in
    let value : c.bound-value.result ≡ bound m plan c.args.task = search rules in
    let found = find_from_yields_List (costs m plan c.args.task c.bound-value.result) _ _ c.find.result c.find.ensures.ran (YieldsList-from_slice plan.uses (search rules)) (λ x b q k. search (rules, tests)) in
    let reason : c.copied-reason.result ≡ bound_reason m plan c.args.task = rw value at (c.copied-reason.ensures ∙ found) in
    let there : ltb c.args.task (length plan.rows) ≡ true = rw c.rows.ensures at (lt-ltb _ _ c.if-task-rows.false) in
    record { answer = rw (value, reason, there); law = rw (value, reason) (bound_law m plan c.args.task) }
