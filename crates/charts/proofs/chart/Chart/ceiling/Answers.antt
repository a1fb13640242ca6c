-- The ceiling is the smallest of the highest users in the modes that clash.
use Rattle.std.proofs.Common.{◌≡◌, ℕ, ◌≤◌, min, sym, ◌∙◌, arith, rules, tests}
use Rattle.std.proofs.lemmas.Iterator.{YieldsList-from_range, YieldsList-from_map}
use Rattle.std.proofs.lemmas.Iterator.Consumers.{YieldsList-at, YieldsList-from_filter, fold_from_yields_List}
use Rattle.plans.specs.Plans.{contents}
use Rattle.charts.specs.Users.{highest_user}
use Rattle.charts.proofs.Users.{over_modes, over_le, least_over, ceiling_over}
use Rattle.charts.proofs.chart.Chart.ceiling.Goals as goal

-- there is nothing below 16 at first
at_most_16 : (n : ℕ) → n ≤ 16 → min 16 n ≡ n
at_most_16 n low = omega arith

pub returns : goal.returns
returns g c =
    let m = g.R.LockRule.meaning c.args.rule.now in
    let uses = (contents c.args.self.now.plan).uses in
    let object = c.args.object in
    let held = c.args.held in
    fold_from_yields_List _ min 16 c.fold.result c.fold.ensures.ran
    (YieldsList-from_map _ (highest_user uses object)
    (YieldsList-at c.map.ensures.source
    (YieldsList-from_filter _ (m.clashes held)
    (YieldsList-at c.filter.ensures.source (YieldsList-from_range 0 m.modes m.modes (cc) (omega arith)))
    c.filter.ensures.closure (λ x b q k. search (rules, tests))))
    c.map.ensures.closure (λ x r q k. search (rules, tests)))
    (λ a x b q k. search (rules, tests))
    ∙ least_over m object held uses 0 m.modes 16 (omega arith)
    ∙ at_most_16 (over_modes m uses object held 0 m.modes) (over_le m object held uses 0 m.modes)
    ∙ sym (ceiling_over m object held (g.met.R.LockRule.lawful c.args.rule.now) m.modes (omega arith) uses)
