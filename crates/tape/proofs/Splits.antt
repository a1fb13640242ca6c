-- A tape splits into its lines. Assumes nothing.
use Rattle.std.proofs.Common.{◌≡◌, ℕ, suc, ◌+◌, ◌-◌, ◌<◌, ◌≤◌, cond, not, eqb, List, [], ◌∷◌, ◌++◌, length, get_or, take, drop, Some, None, Option, sym, refl, ap, ◌∙◌, inl, inr, add-one, arith}
use Rattle.std.specs.List.{flat_map, AllByRecursion}
use Rattle.std.proofs.lemmas.List.{drop_all, drop-drop, length-drop, length-take-le}
use Rattle.std.proofs.lemmas.Bool.{lt-ltb, eqb-true, eqb-false, cases_Bool, cases_lt, cond_both}
use Rattle.protocol.specs.declared.words.Call.{Call}
use Rattle.tape.specs.Lines.{read_line}
use Rattle.tape.specs.Tapes.{onto, lines, line_length, said, entries, lacks_end, with_end, InPlace, Splits}

pub line_length_le : (bytes : List ℕ) → line_length bytes ≤ length bytes
line_length_le [] = omega arith
line_length_le (byte ∷ bytes) = cond_both (eqb byte 10) 0 (suc (line_length bytes)) (λ n. n ≤ suc (length bytes)) (λ _. omega arith) (λ _. omega (arith, line_length_le bytes))

-- a byte that is no line end stands before the first line
first_onto : (byte : ℕ) (line : List ℕ) (more all : List (List ℕ)) → all ≡ line ∷ more → onto byte all ≡ (byte ∷ line) ∷ more
first_onto byte line more all e = ap (onto byte) e

-- the first line, and the lines after it
pub first_line : (bytes : List ℕ) → 0 < length bytes → lines bytes ≡ take (line_length bytes) bytes ∷ lines (drop (line_length bytes + 1) bytes)
first_line [] some = absurd (omega arith)
first_line (byte ∷ []) some = elim (cases_Bool (eqb byte 10)) [ inl is ↦ rw is | inr other ↦ rw other ]
first_line (byte ∷ (next ∷ bytes)) some =
    elim (cases_Bool (eqb byte 10)) [
      | inl is ↦ rw is
      | inr other ↦ rw (other, add-one (suc (line_length (next ∷ bytes)))) (first_onto byte _ _ _ (first_line (next ∷ bytes) (omega arith) ∙ rw add-one))
    ]

-- where a line is taken off at a place, its length and what is after it
module _ (bytes : List ℕ) (place end : ℕ) (inside : place < length bytes) (ends : end ≡ place + line_length (drop place bytes)) where
  some_left : 0 < length (drop place bytes)
  some_left = omega (arith, length-drop place bytes)

  taken : end - place ≡ line_length (drop place bytes)
  taken = omega arith

  long : length (take (end - place) (drop place bytes)) ≡ end - place
  long = length-take-le (end - place) (drop place bytes) (omega (arith, line_length_le (drop place bytes)))

  pub split : lines (drop place bytes) ≡ take (end - place) (drop place bytes) ∷ lines (drop (end + 1) bytes)
  split =
      let after : drop (line_length (drop place bytes) + 1) (drop place bytes) ≡ drop (end + 1) bytes = drop-drop _ place bytes ∙ ap (λ n. drop n bytes) (omega arith) in
      rw (taken, ← after) (first_line (drop place bytes) some_left)

  abbrev line : List ℕ
  line = take (end - place) (drop place bytes)

  -- its end follows
  pub step_inside : entries place (lines (drop place bytes)) ≡ said line place (read_line line) ∷ entries (end + 1) (lines (drop (end + 1) bytes))
  step_inside =
      let next : place + length line + 1 ≡ end + 1 = omega (arith, long) in
      ap (entries place) split ∙ ap (λ n. said line place (read_line line) ∷ entries n (lines (drop (end + 1) bytes))) next

  -- it is the last, and lacks its end
  pub step_last : length bytes ≤ end → entries place (lines (drop place bytes)) ≡ said line place (read_line line) ∷ entries end (lines (drop end bytes))
  step_last last =
      let none : lines (drop (end + 1) bytes) ≡ [] = ap lines (drop_all (end + 1) bytes (omega arith)) in
      let none_here : lines (drop end bytes) ≡ [] = ap lines (drop_all end bytes last) in
      ap (entries place) (split ∙ ap (λ more. line ∷ more) none) ∙ ap (λ more. said line place (read_line line) ∷ entries end more) (sym none_here)

-- the tape is not empty, so it has a line
pub some_line : (bytes : List ℕ) → 0 < length bytes → 0 < length (lines bytes)
some_line bytes some = omega (arith, ap length (first_line bytes some))

abbrev with_ends : List (List ℕ) → List ℕ
with_ends all = flat_map (λ line. line ++ (10 ∷ [])) all

with_ends_onto : (byte : ℕ) (all : List (List ℕ)) → 0 < length all → with_ends (onto byte all) ≡ byte ∷ with_ends all
with_ends_onto byte [] some = absurd (omega arith)
with_ends_onto byte (first ∷ more) some = refl

-- the last byte stays the last
pub lacks_is : (tape : List ℕ) → 0 < length tape → lacks_end tape ≡ not (eqb (get_or tape (length tape - 1) 0) 10)
lacks_is tape h = rw (lt-ltb 0 (length tape) h)

pub lacks_same : (byte next : ℕ) (tape : List ℕ) → lacks_end (byte ∷ (next ∷ tape)) ≡ lacks_end (next ∷ tape)
lacks_same byte next tape =
    let last : length (byte ∷ (next ∷ tape)) - 1 ≡ suc (length (next ∷ tape) - 1) = omega arith in
    lacks_is (byte ∷ (next ∷ tape)) (omega arith) ∙ ap (λ n. not (eqb (get_or (byte ∷ (next ∷ tape)) n 0) 10)) last ∙ sym (lacks_is (next ∷ tape) (omega arith))

end_stays : (byte : ℕ) (tape : List ℕ) → 0 < length tape → with_end (byte ∷ tape) ≡ byte ∷ with_end tape
end_stays byte [] h = absurd (omega arith)
end_stays byte (next ∷ tape) h =
    ap (λ lacks. cond lacks ((byte ∷ (next ∷ tape)) ++ (10 ∷ [])) (byte ∷ (next ∷ tape))) (lacks_same byte next tape)
    ∙ elim (cases_Bool (lacks_end (next ∷ tape))) [ inl lacks ↦ rw lacks | inr has ↦ rw has ]

whole : (tape : List ℕ) → with_ends (lines tape) ≡ with_end tape
whole [] = refl
whole (byte ∷ []) = elim (cases_Bool (eqb byte 10)) [ inl is ↦ rw is (ap (λ b. b ∷ []) (sym (eqb-true _ _ is))) | inr other ↦ rw other ]
whole (byte ∷ (next ∷ tape)) =
    elim (cases_Bool (eqb byte 10)) [
      | inl is ↦ rw is (ap (λ b. b ∷ with_ends (lines (next ∷ tape))) (sym (eqb-true _ _ is)) ∙ ap (λ left. byte ∷ left) (whole (next ∷ tape)) ∙ sym (end_stays byte (next ∷ tape) (omega arith)))
      | inr other ↦ rw other (with_ends_onto byte (lines (next ∷ tape)) (some_line (next ∷ tape) (omega arith)) ∙ ap (λ left. byte ∷ left) (whole (next ∷ tape)) ∙ sym (end_stays byte (next ∷ tape) (omega arith)))
    ]

abbrev NoEnd : List ℕ → Type 0
NoEnd line = AllByRecursion (λ byte. byte ≡ 10 → ⊥) line

apart_onto : (byte : ℕ) (all : List (List ℕ)) → (byte ≡ 10 → ⊥) → AllByRecursion NoEnd all → AllByRecursion NoEnd (onto byte all)
apart_onto byte [] other h = ((other, tt), tt)
apart_onto byte (first ∷ more) other h = ((other, h.0), h.1)

apart : (tape : List ℕ) → AllByRecursion NoEnd (lines tape)
apart [] = tt
apart (byte ∷ tape) = cond_both (eqb byte 10) ([] ∷ lines tape) (onto byte (lines tape)) (AllByRecursion NoEnd) (λ is. (tt, apart tape)) (λ other. apart_onto byte (lines tape) (eqb-false byte 10 other) (apart tape))

stands : (tape line : List ℕ) (place : ℕ) (o : Option Call) → take (length line) (drop place tape) ≡ line → InPlace tape (said line place o)
stands tape first place (Some c) e = tt
stands tape first place None e = e

in_place : (tape : List ℕ) (place : ℕ) (all : List (List ℕ)) → lines (drop place tape) ≡ all → AllByRecursion (InPlace tape) (entries place all)
in_place tape place [] e = tt
in_place tape place (line ∷ more) e =
    elim (cases_lt place (length tape)) [
      | inl inside ↦
          let end = place + line_length (drop place tape) in
          let parts = split tape place end inside refl in
          let same : take (end - place) (drop place tape) ≡ line = cc in
          let after : lines (drop (end + 1) tape) ≡ more = cc in
          let size : length line ≡ end - place = ap length (sym same) ∙ long tape place end inside refl in (
            stands tape line place (read_line line) (ap (λ n. take n (drop place tape)) size ∙ same),
            in_place tape (place + length line + 1) more (ap (λ n. lines (drop n tape)) (omega (arith, size)) ∙ after),
          )
      | inr past ↦
          let none : lines (drop place tape) ≡ [] = ap lines (drop_all place tape past) in
          let z : ◌≡◌ {A = ℕ} 0 1 = cc in absurd (omega arith)
    ]

pub splits : (tape : List ℕ) → Splits tape
splits tape = record { whole = whole tape; apart = apart tape; in_place = in_place tape 0 (lines tape) refl }

pub length_entries : (place : ℕ) (all : List (List ℕ)) → length (entries place all) ≡ length all
length_entries place [] = refl
length_entries place (line ∷ more) = ap suc (length_entries (place + length line + 1) more)
