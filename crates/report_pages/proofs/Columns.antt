-- A number that is printed to the left of a column's width stands as in that column. Assumes nothing.
use Rattle.std.proofs.Common.{◌≡◌, ℕ, zero, suc, ◌-◌, ◌^◌, false, eqb, ◌++◌, length, replicate, decimal, refl, sym, ap, ◌∙◌, arith, lit≤}
use Rattle.std.specs.Fmt.{styled_decimal, padded_integral, char_count, format_spec}
use Rattle.std.specs.List.{repeat}
use Rattle.std.proofs.lemmas.List.{append-nil}
use Rattle.std.proofs.lemmas.Str.{encode_ascii}
use Rattle.std.proofs.lemmas.Bool.{ne_eqb}
use lib.Utf8.{encode}
use Rattle.pages.specs.Pages.{padded}

blanks : (n : ℕ) → repeat n (encode 32) ≡ replicate n 32
blanks zero = refl
blanks (suc n) = λ i. encode_ascii 32 (lit≤ tt) i ++ blanks n i

pub left_of_column : (width n : ℕ) → styled_decimal (format_spec 32 1 0 width (2 ^ 64 - 1)) n ≡ padded width (decimal n)
unfolding padded_integral char_count
left_of_column zero n =
    let d = decimal n in
    let e : 0 - length d ≡ 0 = omega arith in
    sym (ap (λ k. d ++ replicate k 32) e ∙ append-nil d)
left_of_column (suc w) n =
    let d = decimal n in
    let e : suc w - length d - 0 - 0 - 0 ≡ suc w - length d = omega arith in
    let some : eqb (suc w) 0 ≡ false = ne_eqb _ _ (λ none. omega (arith, none)) in
    rw some (ap (λ k. d ++ repeat k (encode 32)) e ∙ ap (λ text. d ++ text) (blanks (suc w - length d)))
