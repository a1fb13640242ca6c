-- One call more is made and answered.
use Rattle.std.proofs.Common.{◌<◌, get_or, take, length, refl, ap, ◌∙◌, arith, rules}
use Rattle.std.proofs.lemmas.Grind.{common_steps}
use Rattle.std.proofs.lemmas.List.{get_or-take}
use Rattle.protocol.specs.Machine.{step}
use Rattle.protocol.specs.declared.words.Call.TheVariants.{Arrive}
use Rattle.manager.specs.View.{setup_of, view}
use Rattle.manager.proofs.LineLaws.{leads_on_all, final_more, answers_more}
use Rattle.manager.proofs.manager.Manager.play.Goals as goal

pub loop-i-preserved : goal.loop-i-preserved
loop-i-preserved g c =
    let setup = setup_of g.R.LockRule.meaning c.args.self.now in
    let s = view c.args.self.now c.args.cells.now in
    let here = view c.loop-i.self c.loop-i.cells in
    let i = c.loop-i.i in
    let calls = c.args.calls.now in
    let inside : i < length calls = grind (arith, common_steps) in
    let counted : i < c.min.result = grind (arith, common_steps) in
    let room : i < length c.args.answers.now = grind (arith, common_steps) in
    let so_far = c.loop-i.invariant in
    let does = rw (get_or-take c.min.result calls i (Arrive 0) counted) at c.call.ensures.does in
    record {
      keeps = does.keeps ∙ so_far.keeps;
      leaves = does.leaves ∙ ap (λ u. (step u here (get_or calls i (Arrive 0))).left) so_far.keeps ∙ final_more setup s here calls i (Arrive 0) inside so_far.leaves;
      answered = answers_more setup s here calls i (Arrive 0) inside so_far.leaves c.args.answers.now c.loop-i.answers room so_far.answered c.call.result (does.answers ∙ ap (λ u. (step u here (get_or calls i (Arrive 0))).answer) so_far.keeps);
    }

pub returns-clause-laws : goal.returns-clause-laws
returns-clause-laws g c =
    let setup = setup_of g.R.LockRule.meaning c.args.self.now in
    leads_on_all setup.rule (g.met.R.LockRule.lawful c.args.self.now.rule) setup refl (view c.args.self.now c.args.cells.now) (view c.loop-i.self c.loop-i.cells) (take (length (take c.min.result c.args.calls.now)) c.args.calls.now) (search rules)
