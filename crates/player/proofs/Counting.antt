-- Counting the lines of a tape by their ends. Assumes nothing.
use Rattle.std.proofs.Common.{◌≡◌, ℕ, ◌+◌, ◌-◌, ◌<◌, cond, not, eqb, List, [], ◌∷◌, length, get_or, sym, refl, ap, ◌∙◌, inl, inr, arith}
use Rattle.std.specs.List.{count_by}
use Rattle.std.proofs.lemmas.List.Recursion.{is_count_by}
use Rattle.std.proofs.lemmas.Bool.{cases_Bool, eq-eqb, ne_eqb}
use Rattle.tape.specs.Tapes.{onto, lines, lacks_end}
use Rattle.tape.proofs.Splits.{some_line, lacks_is, lacks_same}

abbrev ends : List ℕ → ℕ
ends [] = 0
ends (byte ∷ tape) = cond (eqb byte 10) (1 + ends tape) (ends tape)

length_onto : (byte : ℕ) (all : List (List ℕ)) → 0 < length all → length (onto byte all) ≡ length all
length_onto byte [] some = absurd (omega arith)
length_onto byte (line ∷ more) some = refl

-- a line for each end, and one more where the last line lacks its end
count_is : (tape : List ℕ) → ends tape + cond (lacks_end tape) 1 0 ≡ length (lines tape)
count_is [] = refl
count_is (byte ∷ []) = elim (cases_Bool (eqb byte 10)) [ inl is ↦ rw is | inr other ↦ rw other ]
count_is (byte ∷ (next ∷ tape)) =
    let more = count_is (next ∷ tape) in
    let last = ap (λ lacks. cond {A = ℕ} lacks 1 0) (lacks_same byte next tape) in
    elim (cases_Bool (eqb byte 10)) [
      | inl is ↦ rw is (omega (arith, more, last))
      | inr other ↦ rw other (omega (arith, more, last, length_onto byte (lines (next ∷ tape)) (some_line (next ∷ tape) (omega arith))))
    ]

counted : (tape : List ℕ) → count_by (λ byte. eqb byte 10) tape + cond (lacks_end tape) 1 0 ≡ length (lines tape)
counted tape = ap (λ n. n + cond (lacks_end tape) 1 0) (sym (is_count_by ends (λ byte. eqb byte 10) refl (λ _ _. refl) tape)) ∙ count_is tape

pub count_open : (tape : List ℕ) → 0 < length tape → (get_or tape (length tape - 1) 0 ≡ 10 → ⊥) → count_by (λ byte. eqb byte 10) tape + 1 ≡ length (lines tape)
count_open tape some other = omega (arith, counted tape, ap (λ lacks. cond {A = ℕ} lacks 1 0) (lacks_is tape some ∙ ap not (ne_eqb _ 10 other)))

pub count_closed : (tape : List ℕ) → 0 < length tape → get_or tape (length tape - 1) 0 ≡ 10 → count_by (λ byte. eqb byte 10) tape ≡ length (lines tape)
count_closed tape some end = omega (arith, counted tape, ap (λ lacks. cond {A = ℕ} lacks 1 0) (lacks_is tape some ∙ ap not (eq-eqb _ 10 end)))
