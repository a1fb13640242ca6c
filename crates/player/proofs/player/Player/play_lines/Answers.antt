-- A line more is played and written.
use Rattle.std.proofs.Common.{◌≡◌, List, length, sym, refl, ap, ◌∙◌, subst, arith, rules}
use Rattle.std.proofs.lemmas.Bool.{leb-false}
use Rattle.player.specs.Players.{setup, state}
use Rattle.protocol.specs.Machine.{Setup, State}
use Rattle.tape.specs.Items.{entry, to_come}
use Rattle.tape.specs.Tapes.{lines, Entry}
use Rattle.tape.proofs.Splits.{length_entries}
use Rattle.sheets.specs.Sheets.{Put, Within, TaskWithin}
use Rattle.player.specs.Playing.{outcome, play_sheet, play_state}
use Rattle.player.proofs.Filling.{Filling, fill_none, fill_more, fill_all}
use Rattle.player.proofs.player.Player.play_lines.Goals as goal

pub loop-item-init : goal.loop-item-init
loop-item-init g c =
    let size = ap length (ap to_come c.into_iter-item-iterator.ensures.into_iter_gives ∙ c.new-item-items.ensures.entries) ∙ length_entries 0 (lines c.args.tape.now) in
    (refl, fill_none _ c.args.sheet.now _ (to_come c.into_iter-item-iterator.result) (omega (arith, c.requires, size)), refl, (tt, tt))

pub loop-item-preserved : goal.loop-item-preserved
loop-item-preserved g c =
    let fixed = setup g.R.LockRule.meaning c.args.self.now in
    let s = state c.loop-item.self in
    let item = entry c.in-Some.item in
    let all = play_sheet fixed (state c.args.self.now) (to_come c.into_iter-item-iterator.result) in
    let same = c.loop-item.invariant.0 in
    let given = c.in-Some.ensures.steps in
    let so_far = subst (λ (es : List Entry). Filling fixed c.args.sheet.now c.loop-item.sheet c.loop-item.at s es all) given c.loop-item.invariant.1 in
    let answered = subst (λ (st : Setup). c.play_item-answer.result ≡ (outcome st s item).answer) same c.play_item-answer.ensures.answer in
    let leaves = subst (λ (st : Setup). state c.play_item-answer.new.self ≡ (outcome st s item).left) same c.play_item-answer.ensures.state in
    let within : Within c.play_item-answer.result = search rules in
    let task : TaskWithin c.running.result = search rules in
    let written = c.in_ok-at.ensures in (
      c.play_item-answer.ensures.setup ∙ same,
      fill_more fixed c.args.sheet.now c.loop-item.sheet _ c.loop-item.at _ s _ item _ all _ _ so_far answered leaves c.running.ensures (written.law.short _ _ within task) written.line.put c.write_line.auto.sheet,
      ap (λ (t : State). play_state fixed t (to_come c.next.new.self)) leaves ∙ ap (play_state fixed s) (sym given) ∙ c.loop-item.invariant.2,
      (tt, tt),
    )

-- there is room for every line
pub returns-in_err-at : goal.returns-in_err-at
returns-in_err-at g c =
    absurd (omega (arith, leb-false _ _ (sym c.in_err-at.ensures.line.room), c.loop-item.invariant.1.room, ap length c.in-Some.ensures.steps))

pub returns : goal.returns
returns g c =
    let fixed = setup g.R.LockRule.meaning c.args.self.now in
    let start = state c.args.self.now in
    let s = state c.loop-item.self in
    let all = play_sheet fixed start (to_come c.into_iter-item-iterator.result) in
    let none = c.in-None.ensures.steps.0 in
    let tape = ap to_come c.into_iter-item-iterator.ensures.into_iter_gives ∙ c.new-item-items.ensures.entries in
    let done = subst (λ (es : List Entry). Filling fixed c.args.sheet.now c.loop-item.sheet c.loop-item.at s es all) none c.loop-item.invariant.1 in
    record {
      sheet = subst (λ (es : List Entry). Put c.args.sheet.now 0 (play_sheet fixed start es) c.loop-item.sheet c.loop-item.at) tape (fill_all fixed c.args.sheet.now c.loop-item.sheet c.loop-item.at s all done);
      state = ap (play_state fixed s) (sym none) ∙ c.loop-item.invariant.2 ∙ ap (play_state fixed start) tape;
      setup = c.loop-item.invariant.0;
    }
