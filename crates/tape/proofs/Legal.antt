-- A line is a call exactly where it is that call written out. Assumes nothing.
use Rattle.std.proofs.Common.{◌≡◌, ℕ, zero, suc, ◌^◌, ◌<◌, ◌≤◌, true, false, eqb, List, [], ◌∷◌, ◌++◌, length, get_or, drop, ℤ, pos, negsuc, neg_ℤ, Some, None, decimal, Option, sym, refl, ap, ◌∙◌, subst, arith, w32, SFits}
use Rattle.std.specs.Fmt.{signed_decimal}
use Rattle.std.proofs.lemmas.Fmt.{decimal_digit, decimal_nonempty, first_decimal}
use Rattle.std.proofs.lemmas.List.{append-nil, append_assoc, nil_from_length, get_or_append_left}
use Rattle.std.proofs.lemmas.Bool.{cond-false, eqb-true, eqb-false, ne_eqb}
use Rattle.protocol.specs.declared.words.Call.{Call}
use Rattle.protocol.specs.declared.words.Call.TheVariants.{Arrive, Lock, Read, Write, Close, Drop, Tick}
use Rattle.tape.specs.Numbers as numbers
use Rattle.tape.specs.Numbers.{and_then, read_number, read_field, below_zero, not_below_zero, read_signed, read_value}
use Rattle.tape.specs.Lines.{ended, read_three, read_write, read_line}
use Rattle.tape.specs.Written.{field, line_of, Fit, ReadsExactly}
use Rattle.tape.specs.declared.lines.Three.{Three}
use Rattle.tape.proofs.Numerals.{Stops, met, passed, either, same_read, front, number_sound, number_complete}

-- what is read was read at each step
by_steps : {A B P : Type 0} (first : numbers.Read A) (next : A → List ℕ → Option B) (y : B) → and_then first next ≡ Some y → ((x : A) (rest : List ℕ) → first ≡ Some (x, rest) → next x rest ≡ Some y → P) → P
by_steps (Some p) next y e more = more p.0 p.1 refl e
by_steps None next y e more = let z : ◌≡◌ {A = ℕ} 0 1 = cc in absurd (omega arith)

step : {A B : Type 0} (first : numbers.Read A) (next : A → List ℕ → Option B) (x : A) (rest : List ℕ) (y : Option B) → first ≡ Some (x, rest) → next x rest ≡ y → and_then first next ≡ y
step first next x rest y e h = ap (λ r. and_then r next) e ∙ h

-- a reader accepts exactly what is written within the limits L, before something that is no digit
record Exact {A : Type 0} (read : List ℕ → numbers.Read A) (written : A → List ℕ) (L : A → Type 0) : Type 0 where
  sound : (bytes : List ℕ) (x : A) (rest : List ℕ) → read bytes ≡ Some (x, rest) → (bytes ≡ written x ++ rest) × L x
  complete : (x : A) (rest : List ℕ) → L x → Stops rest → read (written x ++ rest) ≡ Some (x, rest)

field_exact : Exact read_field field (λ n. n < 256)
field_exact = record {
  sound = λ bytes n rest e. met (eqb (get_or bytes 0 0) 32) _ (n, rest) e (λ space more.
      let h = number_sound 255 (drop 1 bytes) n rest (omega arith) more in
      (front bytes 32 (omega arith) (eqb-true _ _ space) ∙ ap (λ left. 32 ∷ left) h.0, omega (arith, h.1)));
  complete = λ n rest small stops. number_complete 255 n rest (omega arith) (omega arith) stops;
}

-- a minus stands before a number that is not 0
negated : (n : ℕ) (z : ℤ) (bytes rest : List ℕ) → (n ≡ 0 → ⊥) → n ≤ 2147483648 → bytes ≡ decimal n ++ rest → neg_ℤ (pos n) ≡ z → (45 ∷ bytes ≡ signed_decimal z ++ rest) × SFits w32 z
negated zero z bytes rest some most e same = absurd (some refl)
negated (suc n) z bytes rest some most e same = subst (λ v. (45 ∷ bytes ≡ signed_decimal v ++ rest) × SFits w32 v) same (ap (λ left. 45 ∷ left) e, record { sfits = omega arith })

negative_sound : (bytes : List ℕ) (z : ℤ) (rest : List ℕ) → below_zero (read_number 2147483648 bytes) ≡ Some (z, rest) → (45 ∷ bytes ≡ signed_decimal z ++ rest) × SFits w32 z
negative_sound bytes z rest e =
    by_steps (read_number 2147483648 bytes) _ (z, rest) e (λ n left e₁ more.
    passed (eqb n 0) _ (z, rest) more (λ other done. same_read (neg_ℤ (pos n)) z left rest done (λ same same_left.
    let h = number_sound 2147483648 bytes n left (omega arith) e₁ in
    negated n z bytes rest (eqb-false n 0 other) h.1 (h.0 ∙ ap (λ r. decimal n ++ r) same_left) same)))

positive_sound : (bytes : List ℕ) (z : ℤ) (rest : List ℕ) → not_below_zero (read_number 2147483647 bytes) ≡ Some (z, rest) → (bytes ≡ signed_decimal z ++ rest) × SFits w32 z
positive_sound bytes z rest e =
    by_steps (read_number 2147483647 bytes) _ (z, rest) e (λ n left e₁ done. same_read (pos n) z left rest done (λ same same_left.
    let h = number_sound 2147483647 bytes n left (omega arith) e₁ in
    subst (λ v. (bytes ≡ signed_decimal v ++ rest) × SFits w32 v) same (h.0 ∙ ap (λ r. decimal n ++ r) same_left, record { sfits = omega (arith, h.1) })))

-- a number begins with no minus
no_minus : (n : ℕ) (rest : List ℕ) → n < 2 ^ 64 → eqb (get_or (decimal n ++ rest) 0 0) 45 ≡ false
no_minus zero rest small = rw (decimal_digit 0 (omega arith))
no_minus (suc n) rest small =
    let some = decimal_nonempty (suc n) small in
    ne_eqb _ 45 (λ e. omega (arith, first_decimal (suc n) (omega arith) small, get_or_append_left (decimal (suc n)) rest 0 0 some))

signed_sound : (bytes : List ℕ) (z : ℤ) (rest : List ℕ) → read_signed bytes ≡ Some (z, rest) → (bytes ≡ signed_decimal z ++ rest) × SFits w32 z
signed_sound bytes z rest e =
    either (eqb (get_or bytes 0 0) 45) _ _ (z, rest) e
    (λ minus more. let h = negative_sound (drop 1 bytes) z rest more in (front bytes 45 (omega arith) (eqb-true _ _ minus) ∙ h.0, h.1))
    (λ other more. positive_sound bytes z rest more)

signed_complete : (z : ℤ) (rest : List ℕ) → SFits w32 z → Stops rest → read_signed (signed_decimal z ++ rest) ≡ Some (z, rest)
signed_complete (pos n) rest fits stops =
    rw (no_minus n rest (omega (arith, fits.sfits))) (step _ _ n rest _ (number_complete 2147483647 n rest (omega (arith, fits.sfits)) (omega (arith, fits.sfits)) stops) refl)
signed_complete (negsuc n) rest fits stops =
    step _ _ (suc n) rest _ (number_complete 2147483648 (suc n) rest (omega (arith, fits.sfits)) (omega (arith, fits.sfits)) stops) (cond-false (eqb (suc n) 0) None _ (ne_eqb (suc n) 0 (λ e. omega arith)))

value_exact : Exact read_value (λ z. 32 ∷ signed_decimal z) (SFits w32)
value_exact = record {
  sound = λ bytes z rest e. met (eqb (get_or bytes 0 0) 32) _ (z, rest) e (λ space more.
      let h = signed_sound (drop 1 bytes) z rest more in
      (front bytes 32 (omega arith) (eqb-true _ _ space) ∙ ap (λ left. 32 ∷ left) h.0, h.1));
  complete = λ z rest fits stops. signed_complete z rest fits stops;
}

abbrev three_written : Three → List ℕ
three_written t = field t.task ++ (field t.object ++ field t.third)

abbrev ThreeFit : Three → Type 0
ThreeFit t = (t.task < 256) × (t.object < 256) × (t.third < 256)

three_joined : (t : Three) (rest : List ℕ) → three_written t ++ rest ≡ field t.task ++ (field t.object ++ (field t.third ++ rest))
three_joined t rest = simp append_assoc

three_exact : Exact read_three three_written ThreeFit
three_exact = record {
  sound = λ bytes t rest e.
      by_steps (read_field bytes) _ (t, rest) e (λ task rest₁ e₁ more₁.
      by_steps (read_field rest₁) _ (t, rest) more₁ (λ object rest₂ e₂ more₂.
      by_steps (read_field rest₂) _ (t, rest) more₂ (λ third rest₃ e₃ done.
      let made : Three = record { task = task; object = object; third = third } in
      same_read made t rest₃ rest done (λ same left.
      let a = field_exact.sound bytes task rest₁ e₁ in
      let b = field_exact.sound rest₁ object rest₂ e₂ in
      let c = field_exact.sound rest₂ third rest₃ e₃ in
      subst (λ (u : Three). (bytes ≡ three_written u ++ rest) × ThreeFit u) same
      (a.0 ∙ ap (λ r. field task ++ r) (b.0 ∙ ap (λ r. field object ++ r) (c.0 ∙ ap (λ r. field third ++ r) left)) ∙ sym (three_joined made rest), (a.1, b.1, c.1))))));
  complete = λ t rest fit stops. ap read_three (three_joined t rest)
      ∙ step _ _ _ _ _ (field_exact.complete t.task _ fit.0 refl)
      (step _ _ _ _ _ (field_exact.complete t.object _ fit.1 refl)
      (step _ _ _ _ _ (field_exact.complete t.third rest fit.2 stops) refl));
}

-- nothing follows
ended_sound : {A P : Type 0} (x y : A) (rest : List ℕ) → ended x rest ≡ Some y → (x ≡ y → rest ≡ [] → P) → P
ended_sound {A} x y rest e next = met (eqb (length rest) 0) _ y e (λ none same. let p : x ≡ y = cc in next p (nil_from_length rest (eqb-true _ _ none)))

-- a call that is one element and nothing after it
module _ {A : Type 0} (read : List ℕ → numbers.Read A) (written : A → List ℕ) (L : A → Type 0) (exact : Exact read written L) (made : A → Call) where
  only_sound : {P : Type 0} (fields : List ℕ) (call : Call) → and_then (read fields) (λ x. ended (made x)) ≡ Some call → ((x : A) → made x ≡ call → fields ≡ written x → L x → P) → P
  only_sound fields call e next =
      by_steps (read fields) _ call e (λ x rest e₁ done. ended_sound (made x) call rest done (λ same none.
      let h = exact.sound fields x rest e₁ in
      next x same (h.0 ∙ ap (λ r. written x ++ r) none ∙ append-nil (written x)) h.1))

  only_complete : (x : A) → L x → and_then (read (written x)) (λ x. ended (made x)) ≡ Some (made x)
  only_complete x fit = step _ _ x [] _ (ap read (sym (append-nil (written x))) ∙ exact.complete x [] fit refl) refl

-- the line is the call that was made of it
written_out : (line : List ℕ) (made call : Call) → made ≡ call → line ≡ line_of made → Fit made → (line ≡ line_of call) × Fit call
written_out line made call same e fit = subst (λ c. (line ≡ line_of c) × Fit c) same (e, fit)

-- after the letter stand the fields
after_letter : (line rest : List ℕ) (letter : ℕ) → 0 < letter → eqb (get_or line 0 0) letter ≡ true → drop 1 line ≡ rest → line ≡ letter ∷ rest
after_letter line rest letter some is e = front line letter some (eqb-true _ _ is) ∙ ap (λ left. letter ∷ left) e

module _ (line : List ℕ) (call : Call) where
  task_sound : (letter : ℕ) (made : ℕ → Call) → 0 < letter → ((task : ℕ) → line_of (made task) ≡ letter ∷ field task) → ((task : ℕ) → task < 256 → Fit (made task)) → eqb (get_or line 0 0) letter ≡ true → and_then (read_field (drop 1 line)) (λ task. ended (made task)) ≡ Some call → (line ≡ line_of call) × Fit call
  task_sound letter made some out fits is e =
      only_sound read_field field (λ n. n < 256) field_exact made (drop 1 line) call e (λ task same written fit.
      written_out line (made task) call same (after_letter line (field task) letter some is written ∙ sym (out task)) (fits task fit))

  three_sound : (letter : ℕ) (made : Three → Call) → 0 < letter → ((t : Three) → line_of (made t) ≡ letter ∷ three_written t) → ((t : Three) → ThreeFit t → Fit (made t)) → eqb (get_or line 0 0) letter ≡ true → and_then (read_three (drop 1 line)) (λ t. ended (made t)) ≡ Some call → (line ≡ line_of call) × Fit call
  three_sound letter made some out fits is e =
      only_sound read_three three_written ThreeFit three_exact made (drop 1 line) call e (λ t same written fit.
      written_out line (made t) call same (after_letter line (three_written t) letter some is written ∙ sym (out t)) (fits t fit))

  write_sound : eqb (get_or line 0 0) 87 ≡ true → read_write (drop 1 line) ≡ Some call → (line ≡ line_of call) × Fit call
  write_sound is e =
      by_steps (read_three (drop 1 line)) _ call e (λ t rest e₁ more.
      only_sound read_value (λ z. 32 ∷ signed_decimal z) (SFits w32) value_exact (Write t.task t.object t.third) rest call more (λ value same written fit.
      let h = three_exact.sound (drop 1 line) t rest e₁ in
      written_out line (Write t.task t.object t.third value) call same
      (after_letter line _ 87 (omega arith) is (h.0 ∙ ap (λ r. three_written t ++ r) written ∙ three_joined t (32 ∷ signed_decimal value))) (h.1.0, h.1.1, h.1.2, fit)))

  tick_sound : eqb (get_or line 0 0) 84 ≡ true → ended Tick (drop 1 line) ≡ Some call → (line ≡ line_of call) × Fit call
  tick_sound is e = ended_sound Tick call (drop 1 line) e (λ same none. written_out line Tick call same (after_letter line [] 84 (omega arith) is none) tt)

  line_sound : read_line line ≡ Some call → (line ≡ line_of call) × Fit call
  line_sound e =
      let letter = get_or line 0 0 in
      either (eqb letter 65) _ _ call e (task_sound 65 Arrive (omega arith) (λ _. refl) (λ _ h. h))
      (λ _ e₁. either (eqb letter 76) _ _ call e₁ (three_sound 76 (λ t. Lock t.task t.object t.third) (omega arith) (λ _. refl) (λ _ h. h))
      (λ _ e₂. either (eqb letter 82) _ _ call e₂ (three_sound 82 (λ t. Read t.task t.object t.third) (omega arith) (λ _. refl) (λ _ h. h))
      (λ _ e₃. either (eqb letter 87) _ _ call e₃ write_sound
      (λ _ e₄. either (eqb letter 70) _ _ call e₄ (task_sound 70 Close (omega arith) (λ _. refl) (λ _ h. h))
      (λ _ e₅. either (eqb letter 88) _ _ call e₅ (task_sound 88 Drop (omega arith) (λ _. refl) (λ _ h. h))
      (λ _ e₆. met (eqb letter 84) _ call e₆ tick_sound))))))

line_complete : (call : Call) → Fit call → read_line (line_of call) ≡ Some call
line_complete (Arrive task) fit = only_complete read_field field (λ n. n < 256) field_exact Arrive task fit
line_complete (Lock task object mode) fit = only_complete read_three three_written ThreeFit three_exact (λ t. Lock t.task t.object t.third) (record { task = task; object = object; third = mode }) fit
line_complete (Read task object part) fit = only_complete read_three three_written ThreeFit three_exact (λ t. Read t.task t.object t.third) (record { task = task; object = object; third = part }) fit
line_complete (Write task object part value) fit =
    let t : Three = record { task = task; object = object; third = part } in
    ap read_write (sym (three_joined t (32 ∷ signed_decimal value)))
    ∙ step _ _ t (32 ∷ signed_decimal value) _ (three_exact.complete t (32 ∷ signed_decimal value) (fit.0, fit.1, fit.2) refl)
    (only_complete read_value (λ z. 32 ∷ signed_decimal z) (SFits w32) value_exact (Write task object part) value fit.3)
line_complete (Close task) fit = only_complete read_field field (λ n. n < 256) field_exact Close task fit
line_complete (Drop task) fit = only_complete read_field field (λ n. n < 256) field_exact Drop task fit
line_complete Tick fit = refl

pub reads_exactly : (line : List ℕ) → ReadsExactly line
reads_exactly line call = (line_sound line call, (λ h. ap read_line h.0 ∙ line_complete call h.1))
