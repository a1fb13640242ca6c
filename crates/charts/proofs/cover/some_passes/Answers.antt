-- One passes where `any` finds one.
use Rattle.std.proofs.Common.{refl, rules, tests, ◌||◌, ◌∙◌}
use Rattle.std.specs.List.{list_any}
use Rattle.std.proofs.lemmas.Iterator.{YieldsList-from_slice}
use Rattle.std.proofs.lemmas.Iterator.Search.{any_from_yields_List}
use Rattle.std.proofs.lemmas.List.Recursion.{same_from_clauses}
use Rattle.protocol.specs.Machine.{any}
use Rattle.charts.proofs.cover.some_passes.Goals as goal

pub returns : goal.returns
returns g c = λ test each.
    let items = c.args.items.now in
    any_from_yields_List test _ _ c.any.result c.any.ensures.ran (YieldsList-from_slice items (cc)) (λ x b q k. search (rules, tests, each))
    ∙ same_from_clauses (list_any test) (any test) (λ r rest. test r || rest) refl (λ _ _. refl) (λ _ _. refl) items
