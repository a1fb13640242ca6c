-- Ceilings by way of the highest users in the modes that clash. Assumes nothing.
use Rattle.std.proofs.Common.{◌≡◌, ℕ, zero, suc, ◌+◌, ◌<◌, ◌≤◌, min, true, false, cond, ◌&&◌, eqb, List, [], ◌∷◌, map, sym, refl, ap, ◌∙◌, inl, inr, ⊎_elim, arith}
use Rattle.std.specs.List.{filter, fold, range_with_len}
use Rattle.std.proofs.lemmas.Bool.{cond_both, cases_Bool, cases_eq, cases_lt, eq-eqb, ne_eqb, eqb-true, and_parts, and_from, both_ways}
use Rattle.rules.specs.Meaning.{Meaning, Lawful}
use Rattle.plans.specs.Ceilings.{excluded, ceiling}
use Rattle.plans.specs.declared.parts.Use.{Use}
use Rattle.charts.specs.Users.{is_of, highest_user}

-- over n modes from one on, the smallest of the highest users in those that clash with the held one
abbrev pub over_modes : Meaning → List Use → ℕ → ℕ → ℕ → ℕ → ℕ
over_modes m uses object held wanted zero = 16
over_modes m uses object held wanted (suc n) = let rest = over_modes m uses object held (wanted + 1) n in cond (m.clashes held wanted) (min (highest_user uses object wanted) rest) rest

module _ (m : Meaning) (object held : ℕ) where
  over_none : (wanted n : ℕ) → over_modes m [] object held wanted n ≡ 16
  over_none wanted zero = refl
  over_none wanted (suc n) = let rest = over_none (wanted + 1) n in cond_both (m.clashes held wanted) (min 16 (over_modes m [] object held (wanted + 1) n)) (over_modes m [] object held (wanted + 1) n) (λ x. x ≡ 16) (λ _. omega arith) (λ _. rest)

  pub over_le : (uses : List Use) (wanted n : ℕ) → over_modes m uses object held wanted n ≤ 16
  over_le uses wanted zero = omega arith
  over_le uses wanted (suc n) = let rest = over_le uses (wanted + 1) n in cond_both (m.clashes held wanted) (min (highest_user uses object wanted) (over_modes m uses object held (wanted + 1) n)) (over_modes m uses object held (wanted + 1) n) (λ x. x ≤ 16) (λ _. omega arith) (λ _. rest)

  module _ (u : Use) (us : List Use) where
    -- a use that is not met in these modes changes nothing
    over_skip : (wanted n : ℕ) → ((w : ℕ) → wanted ≤ w → w < wanted + n → m.clashes held w ≡ true → is_of object w u ≡ false) → over_modes m (u ∷ us) object held wanted n ≡ over_modes m us object held wanted n
    over_skip wanted zero other = refl
    over_skip wanted (suc n) other =
        let rest = over_skip (wanted + 1) n (λ w low high. other w (omega arith) (omega arith)) in
        elim (cases_Bool (m.clashes held wanted)) [
          | inl clash ↦ rw (clash, other wanted (omega arith) (omega arith) clash, rest)
          | inr free ↦ rw (free, rest)
        ]

    -- one that is met counts
    over_meet : (wanted n : ℕ) → u.object ≡ object → wanted ≤ u.mode → u.mode < wanted + n → m.clashes held u.mode ≡ true → over_modes m (u ∷ us) object held wanted n ≡ min u.task (over_modes m us object held wanted n)
    over_meet wanted zero same low high clash = absurd (omega arith)
    over_meet wanted (suc n) same low high clash = elim (cases_eq u.mode wanted) [
      | inl here ↦ (
          let rest = over_skip (wanted + 1) n (λ w after _ _. both_false u.mode w (λ e. omega arith)) in
          let clash_here : m.clashes held wanted ≡ true = rw (← here) clash in
          let met : is_of object wanted u ≡ true = rw (eq-eqb u.object object same, eq-eqb u.mode wanted here) in
          rw (clash_here, met, rest) (omega arith))
      | inr later ↦ (
          let rest = over_meet (wanted + 1) n same (omega (arith, later)) (omega arith) clash in
          let other : is_of object wanted u ≡ false = both_false u.mode wanted later in
          elim (cases_Bool (m.clashes held wanted)) [
            | inl c ↦ rw (c, other, rest) (omega arith)
            | inr c ↦ rw (c, rest)
          ])
    ]
      where
        both_false : (a b : ℕ) → (a ≡ b → ⊥) → (eqb u.object object && eqb a b) ≡ false
        both_false a b apart = elim (cases_Bool (eqb u.object object)) [ inl e ↦ rw (e, ne_eqb a b apart) | inr e ↦ rw e ]

  -- with the rule's modes all that can clash are met
  pub ceiling_over : Lawful m → (n : ℕ) → m.modes ≤ n → (uses : List Use) → ceiling m uses object held ≡ over_modes m uses object held 0 n
  ceiling_over lawful n enough [] = sym (over_none 0 n)
  ceiling_over lawful n enough (u ∷ us) = elim (cases_Bool (excluded m object held u)) [
    | inl met ↦ (
        let (same, clash) = and_parts (eqb u.object object) (m.clashes held u.mode) met in
        let there : u.mode < n = ⊎_elim (λ (l : u.mode < n). l) (λ (past : n ≤ u.mode). absurd (both_ways (m.clashes held u.mode) (lawful.no_clash_wanted held u.mode (omega arith)) clash)) (cases_lt u.mode n) in
        rw met (ap (min u.task) (ceiling_over lawful n enough us) ∙ sym (over_meet u us 0 n (eqb-true u.object object same) (omega arith) (omega arith) clash)))
    | inr not-met ↦ rw not-met (ceiling_over lawful n enough us ∙ sym (over_skip u us 0 n (λ w _ _ clash. unmet u w clash not-met)))
  ]
    where
      unmet : (u : Use) (w : ℕ) → m.clashes held w ≡ true → excluded m object held u ≡ false → is_of object w u ≡ false
      unmet u w clash not-met = elim (cases_Bool (is_of object w u)) [
        | inr e ↦ e
        | inl e ↦ (
            let (same, at) = and_parts (eqb u.object object) (eqb u.mode w) e in
            absurd (both_ways (excluded m object held u) not-met (and_from (eqb u.object object) (m.clashes held u.mode) same (rw (eqb-true u.mode w at) clash))))
      ]

  -- what the code folds
  pub least_over : (uses : List Use) (wanted n least : ℕ) → least ≤ 16 → fold min least (map (highest_user uses object) (filter (m.clashes held) (range_with_len wanted n))) ≡ min least (over_modes m uses object held wanted n)
  least_over uses wanted zero least low = omega arith
  least_over uses wanted (suc n) least low = elim (cases_Bool (m.clashes held wanted)) [
    | inl clash ↦ rw clash (least_over uses (wanted + 1) n (min least (highest_user uses object wanted)) (omega arith) ∙ omega arith)
    | inr free ↦ rw free (least_over uses (wanted + 1) n least low)
  ]
