-- Value and reason are those of the definition, and so they keep the law.
use Rattle.std.proofs.Common.{◌≡◌, true, ltb, length, ◌∙◌, rules, tests, arith}
use Rattle.std.proofs.lemmas.Bool.{lt-ltb}
use Rattle.std.proofs.lemmas.Grind.{common_steps}
use Rattle.std.proofs.lemmas.Iterator.{YieldsList-from_slice}
use Rattle.std.proofs.lemmas.Iterator.Search.{find_from_yields_List}
use Rattle.plans.specs.Ceilings.{ceiling, ceiling_reason, attains}
use Rattle.plans.specs.Plans.{contents}
use Rattle.plans.proofs.Reasons.{ceiling_law}
use Rattle.plans.proofs.plan.Plan.ceiling.Goals as goal

pub returns : goal.returns
returns g c =
    let m = g.R.LockRule.meaning c.args.rule.now in
    let plan = contents c.args.self.now in
    let value : c.ceiling-value.result ≡ ceiling m plan.uses c.args.object c.args.mode = search rules in
    let found = find_from_yields_List (attains m c.args.object c.args.mode c.ceiling-value.result) _ _ c.find.result c.find.ensures.ran (YieldsList-from_slice plan.uses (search rules)) (λ x b q k. search (rules, tests)) in
    let reason : c.copied-reason.result ≡ ceiling_reason m plan.uses c.args.object c.args.mode = rw value at (c.copied-reason.ensures ∙ found) in
    let object_there : ltb c.args.object (length plan.objects) ≡ true = search (arith, common_steps, lt-ltb) in
    let mode_there : ltb c.args.mode m.modes ≡ true = search (arith, common_steps, lt-ltb) in
    record { answer = rw (value, reason, object_there, mode_there); law = rw (value, reason) (ceiling_law m c.args.object c.args.mode plan.uses) }
