-- The first line end that the search finds, or none.
use Rattle.std.proofs.Common.{cond, eqb, length, refl, ap, ◌∙◌, inl, inr, arith, rules, tests}
use Rattle.std.proofs.lemmas.Bool.{lt-ltb, le-ltb, cases_lt}
use Rattle.std.proofs.lemmas.Iterator.{YieldsList-from_slice}
use Rattle.std.proofs.lemmas.Iterator.Search.{position_from_yields_List}
use Rattle.std.proofs.lemmas.List.Recursion.{is_position_or_len}
use Rattle.tape.specs.Tapes.{line_length}
use Rattle.tape.proofs.Splits.{line_length_le}
use Rattle.tape.proofs.items.line_length.Goals as goal

pub returns-clause-line : goal.returns-clause-line
returns-clause-line c =
    let bytes = c.args.bytes.now in
    let found = position_from_yields_List (λ byte. eqb byte 10) _ _ c.position.result c.position.ensures.ran (YieldsList-from_slice bytes c.iter.ensures.rest) (λ x b q k. search (rules, tests)) in
    let first = is_position_or_len line_length (λ byte. eqb byte 10) refl (λ byte more. ap (cond (eqb byte 10) 0) (omega arith)) bytes in
    c.unwrap_or.ensures
    ∙ rw (found, ← first) (elim (cases_lt (line_length bytes) (length bytes)) [
      | inl inside ↦ rw (lt-ltb _ _ inside)
      | inr past ↦ rw (le-ltb _ _ past) (omega (arith, line_length_le bytes))
    ])
