-- One text written after another, and how long a number is. Assumes nothing.
use Rattle.std.proofs.Common.{◌≡◌, ℕ, ◌+◌, ◌/◌, ◌%◌, ◌^◌, ◌<◌, ◌≤◌, zero, suc, List, ◌∷◌, ◌++◌, length, ℤ, pos, negsuc, nat_abs, true, decimal, sym, refl, ap, ◌∙◌, arith, add-one, length-append}
use lib.Signed.{lt_z}
use Rattle.std.specs.Fmt.{signed_decimal}
use Rattle.std.proofs.lemmas.Bool.{ltb-true}
use Rattle.std.proofs.lemmas.Fmt.{decimal_digit, decimal_step}
use Rattle.std.proofs.Math.Nat.{pow-suc}
use Rattle.std.proofs.lemmas.List.{length_push}
use Rattle.std.proofs.lemmas.List.Edits.{paste-paste, paste_all}
use Rattle.sheets.specs.declared.line.Line.{Line}
use Rattle.sheets.specs.Sheets.{Put, Adds}

-- one text, and then another behind it
pub put_then : {before s t middle after : List ℕ} {at end behind : ℕ} → at ≤ length before → Put before at s middle end → Put middle end t after behind → Put before at (s ++ t) after behind
put_then {before} {s} {t} {middle} {after} {at} {end} {behind} inside one two =
    let first = one.bytes ∙ sym (paste_all before at s (length s) refl) in
    let both = paste-paste before at s t (length s) (length t) refl refl inside in
    record {
      bytes = two.bytes ∙ rw (one.behind, first) (sym (paste_all _ (at + length s) t (length t) refl) ∙ both ∙ paste_all before at (s ++ t) (length s + length t) (sym (length-append s t)) ∙ rw (← length-append));
      behind = omega (arith, one.behind, two.behind, length-append s t);
    }

pub adds_then : {p q r : Line} {a b : List ℕ} → p.end ≤ length p.sheet.now → Adds p a q → Adds q b r → Adds p (a ++ b) r
adds_then inside one two = record { put = put_then inside one.put two.put; room = two.room ∙ one.room; same = two.same ∙ one.same }

pow-pos : (k : ℕ) → 1 ≤ 10 ^ k
pow-pos zero = omega arith
pow-pos (suc k) = omega (arith, pow-suc 10 k, pow-pos k)

-- what has k digits behind its first
pub wide : (k n : ℕ) → 10 ^ k ≤ n → n < 10 ^ suc k → n < 2 ^ 64 → length (decimal n) ≡ suc k
wide zero n low high small = ap length (decimal_digit n (omega arith))
wide (suc k) n low high small =
    let one : 1 ≤ 10 ^ k = pow-pos k in
    let more = pow-suc 10 k in
    ap length (decimal_step n (omega (arith, one, more)) small) ∙ length_push (decimal (n / 10)) (48 + n % 10)
    ∙ ap (λ l. l + 1) (wide k (n / 10) (omega (arith, more)) (omega (arith, more, pow-suc 10 (suc k))) (omega arith)) ∙ add-one _

-- a number below 0 is its minus and its digits
pub minus_first : (number : ℤ) → lt_z number (pos 0) ≡ true → signed_decimal number ≡ 45 ∷ decimal (nat_abs number)
minus_first (pos n) below = absurd (omega (arith, ltb-true n 0 below))
minus_first (negsuc n) below = refl
