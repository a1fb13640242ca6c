-- Ceilings and bounds: the chains that take them, and the laws that they keep. Assumes nothing.
use Rattle.std.proofs.Common.{◌≡◌, ℕ, zero, suc, ◌<◌, ◌≤◌, min, max, Bool, true, false, cond, ◌&&◌, eqb, ◌⊎◌, List, [], ◌∷◌, length, map, get_or, Some, None, refl, sym, ap, subst, ◌∙◌, inl, inr, ⊎_elim, arith}
use Rattle.std.specs.List.{ContainsAt, find, filter, fold, reduce}
use Rattle.std.specs.Option.{unwrap_or}
use Rattle.std.specs.Ordering.{max_by_ordering, nat_cmp}
use Rattle.std.proofs.lemmas.List.Folds.{max_of_map}
use Rattle.std.proofs.lemmas.Bool.{cases_Bool, cases_lt, and_parts, and_from, eq-eqb, eqb-true, both_ways}
use Rattle.std.proofs.ByRecursion.{has_get_or, has_append_right}
use Rattle.rules.specs.Meaning.{Meaning}
use Rattle.plans.specs.Contents.{Contents, budget_of}
use Rattle.plans.specs.Ceilings.{excluded, ceiling, delays, bound_over, bound, ceiling_reason, bound_reason, CeilingLaw, BoundLaw}
use Rattle.plans.specs.declared.parts.Use.{Use}

-- ---- elements of a list

has_head : {X : Type 0} (x : X) (xs : List X) → ContainsAt (x ∷ xs) x
has_head x xs = has_get_or (x ∷ xs) 0 x (omega arith)

has_tail : {X : Type 0} (y : X) (xs : List X) (x : X) → ContainsAt xs x → ContainsAt (y ∷ xs) x
has_tail y xs = has_append_right (y ∷ []) xs

-- an element is the head, or stands behind it
has_cases : {X : Type 0} (y : X) (xs : List X) (x : X) → ContainsAt (y ∷ xs) x → (y ≡ x) ⊎ ContainsAt xs x
has_cases y xs x h = go h.0 h.1 h.2
  where
    go : (k : ℕ) → k < suc (length xs) → ((d : _) → get_or (y ∷ xs) k d ≡ x) → (y ≡ x) ⊎ ContainsAt xs x
    go zero l at = inl (at x)
    go (suc k) l at = inr (k, omega arith, at)

has_none : {X : Type 0} (x : X) → ContainsAt [] x → ⊥
has_none x h = omega (arith, h.1)

-- ---- the first use that passes

find_passes : (p : Use → Bool) (us : List Use) (u : Use) → find p us ≡ Some u → ContainsAt us u × (p u ≡ true)
find_passes p [] u e = let z : ◌≡◌ {A = ℕ} 0 1 = cc in absurd (omega arith)
find_passes p (v ∷ us) u e =
    ⊎_elim
    (λ (yes' : p v ≡ true). let same : v ≡ u = cc in (rw (← same) (has_head v us), rw (← same) yes'))
    (λ (no' : p v ≡ false). let later : find p us ≡ Some u = cc in (has_tail v us u (find_passes p us u later).0, (find_passes p us u later).1))
    (cases_Bool (p v))

find_none : (p : Use → Bool) (us : List Use) → find p us ≡ None → (u : Use) → ContainsAt us u → p u ≡ false
find_none p [] e u h = absurd (has_none u h)
find_none p (v ∷ us) e u h =
    ⊎_elim
    (λ (yes' : p v ≡ true). let z : ◌≡◌ {A = ℕ} 0 1 = cc in absurd (omega arith))
    (λ (no' : p v ≡ false).
    let later : find p us ≡ None = cc in
    ⊎_elim (λ (same : v ≡ u). rw (← same) no') (λ there. find_none p us later u there) (has_cases v us u h))
    (cases_Bool (p v))

-- ---- the best value of the uses that pass, and what stands for it where none does

module _ (passes : Use → Bool) (value : Use → ℕ) (pick : ℕ → ℕ → ℕ) (none : ℕ) where
  abbrev best : List Use → ℕ
  best [] = none
  best (u ∷ us) = cond (passes u) (pick (value u) (best us)) (best us)

  -- the chain that takes it
  best_folds : ((a b c : ℕ) → pick (pick a b) c ≡ pick (pick a c) b) → ((a b c : ℕ) → pick (pick a b) c ≡ pick a (pick b c)) → (us : List Use) (a : ℕ) → fold (λ b u. pick b (value u)) (pick a none) (filter passes us) ≡ pick a (best us)
  best_folds swap assoc [] a = refl
  best_folds swap assoc (u ∷ us) a =
      elim (passes u) as (λ b. fold (λ b u. pick b (value u)) (pick a none) (cond b (u ∷ filter passes us) (filter passes us)) ≡ pick a (cond b (pick (value u) (best us)) (best us))) [
        | true ↦ ap (λ b. fold (λ b u. pick b (value u)) b (filter passes us)) (swap a none (value u)) ∙ best_folds swap assoc us (pick a (value u)) ∙ assoc a (value u) (best us)
        | false ↦ best_folds swap assoc us a
      ]

  -- and the chain that tests each use where it takes it
  folds_passing : (us : List Use) (a : ℕ) → fold (λ b u. cond (passes u) (pick b (value u)) b) a us ≡ fold (λ b u. pick b (value u)) a (filter passes us)
  folds_passing [] a = refl
  folds_passing (u ∷ us) a =
      elim (passes u) as (λ b. fold (λ b u. cond (passes u) (pick b (value u)) b) (cond b (pick a (value u)) a) us ≡ fold (λ b u. pick b (value u)) a (cond b (u ∷ filter passes us) (filter passes us))) [ true ↦ folds_passing us (pick a (value u)) | false ↦ folds_passing us a ]

  -- no use that passes has a better one
  best_bounds : (R : ℕ → ℕ → Type 0) → ((a b : ℕ) → R (pick a b) a) → ((a b c : ℕ) → R b c → R (pick a b) c) → (us : List Use) (u : Use) → ContainsAt us u → passes u ≡ true → R (best us) (value u)
  best_bounds R first more [] u h e = absurd (has_none u h)
  best_bounds R first more (v ∷ us) u h e =
      ⊎_elim
      (λ (same : v ≡ u). let here : passes v ≡ true = rw same e in rw here (subst (λ w. R (pick (value v) (best us)) (value w)) same (first (value v) (best us))))
      (λ there. elim (passes v) as (λ b. R (cond b (pick (value v) (best us)) (best us)) (value u)) [ true ↦ more (value v) (best us) (value u) (best_bounds R first more us u there e) | false ↦ best_bounds R first more us u there e ])
      (has_cases v us u h)

  -- some use that passes has it, or none does
  abbrev Attained : List Use → ℕ → Type 0
  Attained us n = ((u : Use) × ContainsAt us u × (passes u ≡ true) × (value u ≡ n)) ⊎ (n ≡ none)

  module _ (picks : (a b : ℕ) → (pick a b ≡ a) ⊎ (pick a b ≡ b)) where
    best_attained : (us : List Use) → Attained us (best us)
    best_attained [] = inr refl
    best_attained (v ∷ us) =
        let later : best (v ∷ us) ≡ best us → Attained (v ∷ us) (best (v ∷ us)) = λ e. ⊎_elim (λ a. inl (a.0, has_tail v us a.0 a.1, a.2, a.3 ∙ sym e)) (λ a. inr (e ∙ a)) (best_attained us) in
        ⊎_elim
        (λ (here : passes v ≡ true). ⊎_elim (λ (e : pick (value v) (best us) ≡ value v). inl (v, has_head v us, here, rw here (sym e))) (λ (e : pick (value v) (best us) ≡ best us). later (rw here e)) (picks (value v) (best us)))
        (λ (off : passes v ≡ false). later (rw off refl))
        (cases_Bool (passes v))

    -- the first use that passes with the best value is the reason for it
    reason_attains : (us : List Use) (u : Use) → find (λ w. passes w && eqb (value w) (best us)) us ≡ Some u → ContainsAt us u × (passes u ≡ true) × (value u ≡ best us)
    reason_attains us u e =
        let found = find_passes (λ w. passes w && eqb (value w) (best us)) us u e in
        let parts = and_parts _ _ found.1 in
        (found.0, parts.0, eqb-true _ _ parts.1)

    free_of_reason : (us : List Use) → find (λ w. passes w && eqb (value w) (best us)) us ≡ None → best us ≡ none
    free_of_reason us e =
        ⊎_elim
        (λ a. absurd (both_ways _ (find_none (λ w. passes w && eqb (value w) (best us)) us e a.0 a.1) (and_from _ _ a.2 (eq-eqb _ _ a.3))))
        (λ (free : best us ≡ none). free)
        (best_attained us)

-- ---- ceilings

module _ (m : Meaning) (object held : ℕ) where
  ceiling_is : (us : List Use) → ceiling m us object held ≡ best (excluded m object held) (λ u. u.task) min 16 us
  ceiling_is [] = refl
  ceiling_is (u ∷ us) = ap (λ rest. cond (excluded m object held u) (min u.task rest) rest) (ceiling_is us)

  pub ceiling_le : (us : List Use) → ceiling m us object held ≤ 16
  ceiling_le [] = omega arith
  ceiling_le (u ∷ us) = elim (excluded m object held u) as (λ b. cond b (min u.task (ceiling m us object held)) (ceiling m us object held) ≤ 16) [ true ↦ omega (arith, ceiling_le us) | false ↦ ceiling_le us ]

  pub ceiling_by_min : (us : List Use) → fold (λ a u. cond (excluded m object held u) (min a u.task) a) 16 us ≡ ceiling m us object held
  ceiling_by_min us = folds_passing (excluded m object held) (λ u. u.task) min 16 us 16 ∙ omega (arith, best_folds (excluded m object held) (λ u. u.task) min 16 (λ a b c. omega arith) (λ a b c. omega arith) us 16, ceiling_is us, ceiling_le us)

  lowest_or : (a b : ℕ) → (min a b ≡ a) ⊎ (min a b ≡ b)
  lowest_or a b = ⊎_elim (λ (l : a < b). inl (omega arith)) (λ (l : b ≤ a). inr (omega arith)) (cases_lt a b)

  pub ceiling_law : (uses : List Use) → CeilingLaw m uses object held (ceiling m uses object held) (ceiling_reason m uses object held)
  ceiling_law uses = rw (ceiling_is uses) record {
    least = best_bounds _ _ min 16 (λ c task. c ≤ task) (λ a b. omega arith) (λ a b c l. omega arith) uses;
    attained = reason_attains (excluded m object held) (λ u. u.task) min 16 lowest_or uses;
    free = free_of_reason (excluded m object held) (λ u. u.task) min 16 lowest_or uses;
  }

-- ---- bounds

module _ (m : Meaning) (plan : Contents) (task : ℕ) where
  bound_is : (us : List Use) → bound_over m plan task us ≡ best (delays m plan.uses task) (λ u. budget_of plan u.task) max 0 us
  bound_is [] = refl
  bound_is (u ∷ us) = ap (λ rest. cond (delays m plan.uses task u) (max (budget_of plan u.task) rest) rest) (bound_is us)

  pub bound_by_max : unwrap_or (reduce (λ p z. max_by_ordering (nat_cmp p z) p z) (map (λ u. budget_of plan u.task) (filter (delays m plan.uses task) plan.uses))) 0 ≡ bound m plan task
  bound_by_max = max_of_map (λ u. budget_of plan u.task) (filter (delays m plan.uses task) plan.uses) ∙ omega (arith, best_folds (delays m plan.uses task) (λ u. budget_of plan u.task) max 0 (λ a b c. omega arith) (λ a b c. omega arith) plan.uses 0, bound_is plan.uses)

  highest_or : (a b : ℕ) → (max a b ≡ a) ⊎ (max a b ≡ b)
  highest_or a b = ⊎_elim (λ (l : a < b). inr (omega arith)) (λ (l : b ≤ a). inl (omega arith)) (cases_lt a b)

  pub bound_law : BoundLaw m plan task (bound m plan task) (bound_reason m plan task)
  bound_law = rw (bound_is plan.uses) record {
    greatest = best_bounds _ _ max 0 (λ b budget. budget ≤ b) (λ a b. omega arith) (λ a b c l. omega arith) plan.uses;
    attained = reason_attains (delays m plan.uses task) (λ u. budget_of plan u.task) max 0 highest_or plan.uses;
    free = free_of_reason (delays m plan.uses task) (λ u. budget_of plan u.task) max 0 highest_or plan.uses;
  }
