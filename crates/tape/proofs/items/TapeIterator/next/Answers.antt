-- One line is taken off.
use Rattle.std.proofs.Common.{◌≡◌, ◌+◌, ◌<◌, length, Some, None, Option, refl, ap, ◌∙◌, inl, inr, arith, rules}
use Rattle.std.proofs.lemmas.List.{take_rest, drop_all}
use Rattle.std.proofs.lemmas.Bool.{cases_lt}
use Rattle.std.specs.Option.{ok_or}
use Rattle.protocol.specs.declared.words.Call.{Call}
use Rattle.tape.specs.Items.{entry}
use Rattle.tape.specs.Tapes.{said, entries, lines}
use Rattle.tape.specs.declared.items.Unreadable.{Unreadable}
use Rattle.tape.proofs.Splits.{step_inside, step_last}
use Rattle.tape.proofs.items.TapeIterator.next.Goals as goal
use Rattle.std.proofs.iter.Next.{firm}

pub returns-then-place-bytes : goal.returns-then-place-bytes
returns-then-place-bytes c =
    let t = c.args.self.now in
    record { steps = (ap (λ left. entries t.place (lines left)) (drop_all t.place t.bytes.now (omega arith)), refl); goes = search rules }

-- a line that was read or not
entry_is : (read : Option Call) (none : Unreadable) → entry (ok_or read none) ≡ said none.line.now none.place read
entry_is (Some call) none = refl
entry_is None none = refl

pub returns : goal.returns
returns c =
    let bytes = c.args.self.now.bytes.now in
    let place = c.args.self.now.place in
    let inside : place < length bytes = omega arith in
    let end = place + c.line_length.result in
    let ends = ap (λ n. place + n) (rw (take_rest bytes place) at c.line_length.ensures.line) in
    let item = ap entry c.ok_or.ensures.value ∙ entry_is c.read_line.result _ ∙ ap (said _ place) c.read_line.ensures.call in
    record {
      steps = rw item (elim (cases_lt end (length bytes)) [
        | inl more ↦
            let next : c.min-self.result ≡ end + 1 = omega (arith, c.min-self.ensures) in
            rw next (step_inside bytes place end inside ends)
        | inr last ↦
            let next : c.min-self.result ≡ end = omega (arith, c.min-self.ensures, c.line_length.ensures.within) in
            rw next (step_last bytes place end inside ends last)
      ]);
      goes = firm ((tt, tt, omega (arith, c.min-self.ensures))) (λ h. search rules);
    }
