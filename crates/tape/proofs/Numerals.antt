-- A number is read exactly from its decimal digits. Assumes nothing.
use Rattle.std.proofs.Common.{◌≡◌, ℕ, zero, suc, ◌^◌, ◌<◌, ◌≤◌, Bool, true, false, cond, ◌&&◌, eqb, ltb, List, [], ◌∷◌, ◌++◌, get_or, drop, Some, None, decimal, Option, sym, refl, ap, ◌∙◌, arith, rules}
use Rattle.std.proofs.lemmas.Fmt.{decimal_digit, decimal-digits_value, digits_decimal, first_decimal, digits_value-decimal}
use Rattle.std.proofs.lemmas.Str.Parse.{IsNumeralModel, numerals_by_fold}
use Rattle.std.proofs.lemmas.Bool.{eqb-true, eqb-false, ne_eqb, ltb-false, le-ltb, and_parts}
use Rattle.tape.specs.Numbers.{Read, is_digit, one_more, digits_after, read_number}
use Rattle.tape.proofs.Digits.{digits_stop}

-- every byte is a digit
abbrev all_digits : List ℕ → Bool
all_digits [] = true
all_digits (byte ∷ bytes) = is_digit byte && all_digits bytes

-- the number that digits make after a number
abbrev run : ℕ → List ℕ → ℕ
run number [] = number
run number (byte ∷ bytes) = run (one_more number byte) bytes

own : IsNumeralModel (λ ds. all_digits ds ≡ true) (run 0)
own = numerals_by_fold _ (search rules) run (search rules)

run_ge : (number : ℕ) (ds : List ℕ) → number ≤ run number ds
run_ge number [] = omega arith
run_ge number (byte ∷ bytes) = omega (arith, run_ge (one_more number byte) bytes)

-- no digit is in front
abbrev pub Stops : List ℕ → Type 0
Stops rest = is_digit (get_or rest 0 0) ≡ false

-- what is read has passed a test
pub passed : {A P : Type 0} (test : Bool) (more : Option A) (x : A) → cond test None more ≡ Some x → (test ≡ false → more ≡ Some x → P) → P
passed true more x e next = let z : ◌≡◌ {A = ℕ} 0 1 = cc in absurd (omega arith)
passed false more x e next = next refl e

pub met : {A P : Type 0} (test : Bool) (more : Option A) (x : A) → cond test more None ≡ Some x → (test ≡ true → more ≡ Some x → P) → P
met true more x e next = next refl e
met false more x e next = let z : ◌≡◌ {A = ℕ} 0 1 = cc in absurd (omega arith)

pub either : {A P : Type 0} (test : Bool) (here there : Option A) (x : A) → cond test here there ≡ Some x → (test ≡ true → here ≡ Some x → P) → (test ≡ false → there ≡ Some x → P) → P
either true here there x e one other = one refl e
either false here there x e one other = other refl e

-- the same was read, and the same is left
pub same_read : {A P : Type 0} (x y : A) (rest left : List ℕ) → ◌≡◌ {A = Read A} (Some (x, rest)) (Some (y, left)) → (x ≡ y → rest ≡ left → P) → P
same_read {A} x y rest left e next = let p : ◌≡◌ {A = A × List ℕ} (x, rest) (y, left) = cc in next (ap (λ q. q.0) p) (ap (λ q. q.1) p)

digits_sound : (most number : ℕ) (bytes : List ℕ) (n : ℕ) (rest : List ℕ) → digits_after most number bytes ≡ Some (n, rest) → number ≤ most → (ds : List ℕ) × (bytes ≡ ds ++ rest) × (all_digits ds ≡ true) × (run number ds ≡ n) × (n ≤ most)
digits_sound most number [] n rest e within = same_read number n [] rest e (λ same left. ([], left, refl, same, omega arith))
digits_sound most number (byte ∷ bytes) n rest e within =
    either (is_digit byte) _ _ (n, rest) e
    (λ digit more. passed (ltb most (one_more number byte)) _ (n, rest) more (λ low rest_read.
    let h = digits_sound most (one_more number byte) bytes n rest rest_read (ltb-false _ _ low) in
    (byte ∷ h.0, ap (λ left. byte ∷ left) h.1, rw (digit, h.2), h.3, h.4)))
    (λ none stop. same_read number n (byte ∷ bytes) rest stop (λ same left. ([], left, refl, same, omega arith)))

digits_complete : (most number : ℕ) (ds rest : List ℕ) → all_digits ds ≡ true → run number ds ≤ most → Stops rest → digits_after most number (ds ++ rest) ≡ Some (run number ds, rest)
digits_complete most number [] rest all within stops = digits_stop most number rest stops
digits_complete most number (byte ∷ ds) rest all within stops =
    let p = and_parts (is_digit byte) (all_digits ds) all in
    let low : one_more number byte ≤ most = omega (arith, run_ge (one_more number byte) ds) in
    rw (p.0, le-ltb most (one_more number byte) low) (digits_complete most (one_more number byte) ds rest p.1 within stops)

-- a byte that is not 0 is in front
pub front : (bytes : List ℕ) (byte : ℕ) → 0 < byte → get_or bytes 0 0 ≡ byte → bytes ≡ byte ∷ drop 1 bytes
front [] byte some e = absurd (omega arith)
front (first ∷ bytes) byte some e = ap (λ b. b ∷ bytes) e

leading : (most : ℕ) (bytes : List ℕ) (n : ℕ) (rest : List ℕ) → most < 2 ^ 64 → (get_or bytes 0 0 ≡ 48 → ⊥) → is_digit (get_or bytes 0 0) ≡ true → digits_after most 0 bytes ≡ Some (n, rest) → (bytes ≡ decimal n ++ rest) × (n ≤ most)
leading most [] n rest small first digit e = let z : ◌≡◌ {A = ℕ} 0 1 = cc in absurd (omega arith)
leading most (byte ∷ bytes) n rest small first digit e =
    passed (ltb most (one_more 0 byte)) (digits_after most (one_more 0 byte) bytes) (n, rest) (rw digit at e) (λ low more.
    let h = digits_sound most (one_more 0 byte) bytes n rest more (ltb-false _ _ low) in
    let ds = byte ∷ h.0 in
    let written = decimal-digits_value own ds (rw (digit, h.2)) (omega arith) (λ zero. absurd (first zero)) (omega (arith, h.3, h.4)) in
    (ap (λ left. byte ∷ left) h.1 ∙ ap (λ front. front ++ rest) (sym written ∙ ap decimal h.3), h.4))

pub number_sound : (most : ℕ) (bytes : List ℕ) (n : ℕ) (rest : List ℕ) → most < 2 ^ 64 → read_number most bytes ≡ Some (n, rest) → (bytes ≡ decimal n ++ rest) × (n ≤ most)
number_sound most bytes n rest small e =
    either (eqb (get_or bytes 0 0) 48) _ _ (n, rest) e
    (λ zero alone. same_read 0 n (drop 1 bytes) rest alone (λ same left.
    (front bytes 48 (omega arith) (eqb-true _ _ zero) ∙ ap (λ left. 48 ∷ left) left ∙ ap (λ front. front ++ rest) (sym (decimal_digit 0 (omega arith)) ∙ ap decimal same), omega (arith, same))))
    (λ other more. met (is_digit (get_or bytes 0 0)) _ (n, rest) more (λ digit digits. leading most bytes n rest small (eqb-false _ _ other) digit digits))

some_digits : (most : ℕ) (ds rest : List ℕ) → all_digits ds ≡ true → 48 < get_or ds 0 0 → run 0 ds ≤ most → Stops rest → read_number most (ds ++ rest) ≡ Some (run 0 ds, rest)
some_digits most [] rest all first within stops = absurd (omega arith)
some_digits most (byte ∷ ds) rest all first within stops =
    let p = and_parts (is_digit byte) (all_digits ds) all in
    rw (ne_eqb byte 48 (λ e. omega arith), p.0) (rw p.0 at (digits_complete most 0 (byte ∷ ds) rest all within stops))

pub number_complete : (most n : ℕ) (rest : List ℕ) → n ≤ most → n < 2 ^ 64 → Stops rest → read_number most (decimal n ++ rest) ≡ Some (n, rest)
number_complete most zero rest within small stops = rw (decimal_digit 0 (omega arith))
number_complete most (suc n) rest within small stops =
    let is = digits_value-decimal own (suc n) small in
    some_digits most (decimal (suc n)) rest (digits_decimal own (suc n) small) (first_decimal (suc n) (omega arith) small) (omega arith) stops ∙ ap (λ number. Some (number, rest)) is
