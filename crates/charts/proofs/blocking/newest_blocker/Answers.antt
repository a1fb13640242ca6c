-- The newest that passes is the first from the back.
use Rattle.std.proofs.Common.{◌≡◌, Bool, true, false, cond, List, [], ◌∷◌, reverse, Option, Some, None, refl, ap, ◌∙◌, rules, tests}
use Rattle.std.specs.List.{find}
use Rattle.std.specs.Option.{option_map, option_or}
use Rattle.std.proofs.lemmas.Iterator.Adapters.{YieldsList-from_rev_slice}
use Rattle.std.proofs.lemmas.Iterator.Search.{find_from_yields_List}
use Rattle.std.proofs.lemmas.List.{reverse-append}
use Rattle.std.proofs.lemmas.List.Folds.{find-append}
use Rattle.plans.specs.Plans.{contents}
use Rattle.protocol.specs.Machine.{or_else, newest_task}
use Rattle.protocol.specs.declared.words.LockRecord.{LockRecord}
use Rattle.charts.specs.Users.{blocks_under}
use Rattle.charts.proofs.blocking.newest_blocker.Goals as goal

one_more : (found : Option LockRecord) (passes : Bool) (r : LockRecord) → option_map (λ (r : LockRecord). r.task) (option_or found (cond passes (Some r) None)) ≡ or_else (option_map (λ (r : LockRecord). r.task) found) (cond passes (Some r.task) None)
one_more (Some x) passes r = refl
one_more None true r = refl
one_more None false r = refl

newest_from_back : (p : LockRecord → Bool) (rs : List LockRecord) → option_map (λ (r : LockRecord). r.task) (find p (reverse rs)) ≡ newest_task p rs
newest_from_back p [] = refl
newest_from_back p (r ∷ rs) =
    ap (λ back. option_map (λ (r : LockRecord). r.task) (find p back)) (reverse-append (r ∷ []) rs) ∙ ap (option_map (λ (r : LockRecord). r.task)) (find-append p (reverse rs) (r ∷ [])) ∙ one_more (find p (reverse rs)) (p r) r ∙ ap (λ o. or_else o (cond (p r) (Some r.task) None)) (newest_from_back p rs)

pub returns : goal.returns
returns g c =
    let blocks = blocks_under (g.R.LockRule.meaning c.args.rule.now) (contents c.args.chart.now.plan).uses c.args.task in
    let locks = c.args.locks.now in
    let found = find_from_yields_List blocks _ _ c.find.result c.find.ensures.ran (YieldsList-from_rev_slice locks (cc)) (λ x b q k. search (rules, tests)) in
    rw (← found) (search rules) ∙ newest_from_back blocks locks
