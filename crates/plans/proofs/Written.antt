-- A plan is accepted exactly from the bytes that it is written in. Assumes nothing.
use Rattle.std.proofs.Common.{◌≡◌, ℕ, ◌+◌, ◌-◌, ◌*◌, ◌<◌, ◌≤◌, ltb, ◌↔◌, List, [], ◌∷◌, ◌++◌, length, get_or, drop, Ok, Err, Result, sym, refl, ap, ◌∙◌, subst, ap₂, inl, inr, arith}
use Rattle.std.specs.List.{flat_map, ContainsAt, AllByRecursion}
use Rattle.std.proofs.ByRecursion.{all-has, all_has_itself, All-get_or, All-from_get_or, All-weaker, has_append_left, has_push, has_push_cases, has_get_or}
use Rattle.std.proofs.lemmas.List.{append_assoc, append-nil, drop_more, get_or-drop, get_or_push, length_push}
use Rattle.std.proofs.lemmas.Bool.{ltb-false, le-ltb, ne_eqb}
use Rattle.rules.specs.Meaning.{Meaning}
use Rattle.plans.specs.Contents.{Contents, no_row}
use Rattle.plans.specs.Limits.{ObjectLimits, RowLimits, NotFalling, UseLimits, Distinct, Limits}
use Rattle.plans.specs.Reading.{Read, taking, counted, read_some, read_object, read_objects, read_row, last_row, read_rows, read_uses, read_plan, nothing_after}
use Rattle.plans.specs.Written.{two_bytes, object_bytes, row_bytes, use_bytes, plan_bytes, AcceptedExactly, AcceptedWhole}
use Rattle.plans.specs.declared.parts.Row.{Row}
use Rattle.plans.specs.declared.refusal.Refusal.{Refusal}
use Rattle.plans.specs.declared.refusal.Refusal.TheVariants.{PlanEnds}
use Rattle.plans.proofs.Chains.{Bytes, bytes_after, Exact, Chain, free_chain, passed, same_read, by_steps, step, counted_sound, counted_complete}
use Rattle.plans.proofs.Elements.{front_two, two_back, two_forth, object_exact, row_exact, use_exact}

-- what is pushed is the last
last_push : (rows : List Row) (row : Row) → last_row (rows ++ (row ∷ [])) ≡ row
last_push rows row = get_or_push rows row no_row (length (rows ++ (row ∷ [])) - 1) (omega (arith, length_push rows row))

abbrev Rises : List Row → Row → Type 0
Rises before row = (last_row before).period ≤ row.period

-- each row rises over those before it where no period falls from the last of them on
rises : (before rows : List Row) → Chain Rises before rows ↔ NotFalling (last_row before ∷ rows)
rises before [] = ((λ _. tt), (λ _. tt))
rises before (row ∷ rows) =
    let more = subst (λ last. Chain Rises (before ++ (row ∷ [])) rows ↔ NotFalling (last ∷ rows)) (last_push before row) (rises (before ++ (row ∷ [])) rows) in
    ((λ c. (c.0, more.0 c.1)), (λ h. (h.0, more.1 h.1)))

rises_all : (rows : List Row) → Chain Rises [] rows ↔ NotFalling rows
rises_all [] = rises [] []
rises_all (row ∷ rows) = ((λ c. ((rises [] (row ∷ rows)).0 c).1), (λ h. (rises [] (row ∷ rows)).1 (omega arith, h)))

abbrev Fresh : {X : Type 0} → List X → X → Type 0
Fresh before x = ContainsAt before x → ⊥

-- each element is new after those before it: none stands twice, and none is among those before
distinct_from : {X : Type 0} (before xs : List X) → Chain Fresh before xs → Distinct xs × AllByRecursion (Fresh before) xs
distinct_from before [] chain = (tt, tt)
distinct_from before (x ∷ xs) chain =
    let longer = before ++ (x ∷ []) in
    let h = distinct_from longer xs chain.1 in
    let once : Fresh xs x = λ again. all-has (Fresh longer) xs x h.1 again (has_push before x) in
    ((once, h.0), (chain.0, All-weaker (Fresh longer) (Fresh before) (λ y new old. new (has_append_left before (x ∷ []) y old)) xs h.1))

fresh_from : {X : Type 0} (before xs : List X) → Distinct xs → AllByRecursion (Fresh before) xs → Chain Fresh before xs
fresh_from before [] distinct new = tt
fresh_from before (x ∷ xs) distinct new =
    let still : (i : ℕ) → i < length xs → Fresh (before ++ (x ∷ [])) (get_or xs i x) = λ i inside old.
    elim (has_push_cases before x (get_or xs i x) old) [ inl there ↦ All-get_or (Fresh before) xs i x inside new.1 there | inr same ↦ distinct.0 (rw (← same) at (has_get_or xs i x inside)) ] in
    (new.0, fresh_from (before ++ (x ∷ [])) xs distinct.1 (All-from_get_or (Fresh (before ++ (x ∷ []))) xs x still))

fresh_all : {X : Type 0} (xs : List X) → Chain Fresh [] xs ↔ Distinct xs
fresh_all xs = ((λ chain. (distinct_from [] xs chain).0), (λ distinct. fresh_from [] xs distinct (All-weaker (ContainsAt xs) (Fresh []) (λ y _ none. omega arith) xs (all_has_itself xs))))

-- a section after a count of one byte
module _ {A : Type 0} (one : List A → List ℕ → Read A) (written : A → List ℕ) (L : A → Type 0) (Q : List A → A → Type 0) (exact : Exact one written L Q) (low high : ℕ) where
  section_sound : (bytes : List ℕ) (xs : List A) (rest : List ℕ) → Bytes bytes → taking 1 bytes (counted low high (get_or bytes 0 0) (λ n. read_some one n [] (drop 1 bytes))) ≡ Ok (xs, rest) → (bytes ≡ (length xs ∷ flat_map written xs) ++ rest) × (low ≤ length xs) × (length xs ≤ high) × AllByRecursion L xs × Chain Q [] xs
  section_sound bytes xs rest are e =
      let p = passed (ltb (length bytes) 1) PlanEnds _ (xs, rest) e in
      let s = counted_sound one written L Q exact low high (get_or bytes 0 0) (drop 1 bytes) xs rest (λ i. rw (get_or-drop 1 bytes i 0) (are (1 + i))) p.1 in
      (drop_more bytes 0 0 (ltb-false (length bytes) 1 p.0) ∙ ap₂ (λ n left. n ∷ left) (sym s.0) s.3, s.1, s.2, s.4, s.5)

  section_complete : (xs : List A) (rest : List ℕ) → low ≤ length xs → length xs ≤ high → AllByRecursion L xs → Chain Q [] xs → (let bytes = (length xs ∷ flat_map written xs) ++ rest in taking 1 bytes (counted low high (get_or bytes 0 0) (λ n. read_some one n [] (drop 1 bytes)))) ≡ Ok (xs, rest)
  section_complete xs rest least most keep chain = rw (le-ltb (length ((length xs ∷ flat_map written xs) ++ rest)) 1 (omega arith)) (counted_complete one written L Q exact low high xs rest least most keep chain)

uses_sound : (m : Meaning) (plan : Contents) (bytes rest : List ℕ) → Bytes bytes → read_uses (length plan.rows) (length plan.objects) m.modes bytes ≡ Ok (plan.uses, rest) → (bytes ≡ (two_bytes (length plan.uses) ++ flat_map use_bytes plan.uses) ++ rest) × (length plan.uses ≤ 512) × AllByRecursion (UseLimits m plan) plan.uses × Distinct plan.uses
uses_sound m plan bytes rest are e =
    let p = passed (ltb (length bytes) 2) PlanEnds _ (plan.uses, rest) e in
    let s = counted_sound _ use_bytes (UseLimits m plan) Fresh (use_exact m plan) 0 512 (get_or bytes 0 0 * 256 + get_or bytes 1 0) (drop 2 bytes) plan.uses rest (λ i. rw (get_or-drop 2 bytes i 0) (are (2 + i))) p.1 in
    (front_two bytes (ltb-false (length bytes) 2 p.0) ∙ ap₂ (λ front left. front ++ left) (sym (two_back (get_or bytes 0 0) (get_or bytes 1 0) (are 1)) ∙ ap two_bytes (sym s.0)) s.3, s.2, s.4, (fresh_all plan.uses).0 s.5)

uses_complete : (m : Meaning) (plan : Contents) (rest : List ℕ) → Limits m plan → read_uses (length plan.rows) (length plan.objects) m.modes ((two_bytes (length plan.uses) ++ flat_map use_bytes plan.uses) ++ rest) ≡ Ok (plan.uses, rest)
uses_complete m plan rest keep =
    rw (le-ltb (length ((two_bytes (length plan.uses) ++ flat_map use_bytes plan.uses) ++ rest)) 2 (omega arith), two_forth (length plan.uses))
    (counted_complete _ use_bytes (UseLimits m plan) Fresh (use_exact m plan) 0 512 plan.uses rest (omega arith) keep.few_uses keep.uses_keep ((fresh_all plan.uses).1 keep.uses_once))

-- the three sections, one after the other
regroup : (plan : Contents) (rest : List ℕ) → plan_bytes plan ++ rest ≡ (length plan.objects ∷ flat_map object_bytes plan.objects) ++ ((length plan.rows ∷ flat_map row_bytes plan.rows) ++ ((two_bytes (length plan.uses) ++ flat_map use_bytes plan.uses) ++ rest))
regroup plan rest = simp append_assoc

plan_sound : (m : Meaning) (bytes : List ℕ) → Bytes bytes → (plan : Contents) (rest : List ℕ) → read_plan m bytes ≡ Ok (plan, rest) → (bytes ≡ plan_bytes plan ++ rest) × Limits m plan
plan_sound m bytes are plan rest e =
    by_steps (read_objects bytes) _ (plan, rest) e (λ objects bytes₁ e₁ more₁.
    by_steps (read_rows bytes₁) _ (plan, rest) more₁ (λ rows bytes₂ e₂ more₂.
    by_steps (read_uses (length rows) (length objects) m.modes bytes₂) _ (plan, rest) more₂ (λ uses bytes₃ e₃ done.
    let made : Contents = record { objects = objects; rows = rows; uses = uses } in
    let same = same_read made plan bytes₃ rest done in
    let o = section_sound (λ _. read_object) object_bytes ObjectLimits (λ _ _. Unit {0}) object_exact 1 32 bytes objects bytes₁ are e₁ in
    let are₁ = bytes_after (length objects ∷ flat_map object_bytes objects) bytes₁ (rw o.0 at are) in
    let r = section_sound read_row row_bytes RowLimits Rises row_exact 1 16 bytes₁ rows bytes₂ are₁ e₂ in
    let are₂ = bytes_after (length rows ∷ flat_map row_bytes rows) bytes₂ (rw r.0 at are₁) in
    let u = uses_sound m made bytes₂ bytes₃ are₂ e₃ in
    rw (← same.0, ← same.1) (
      o.0 ∙ ap (λ left. (length objects ∷ flat_map object_bytes objects) ++ left) (r.0 ∙ ap (λ left. (length rows ∷ flat_map row_bytes rows) ++ left) u.0) ∙ sym (regroup made bytes₃),
      record {
        some_object = o.1;
        few_objects = o.2;
        objects_keep = o.3;
        some_task = r.1;
        few_tasks = r.2;
        rows_keep = r.3;
        not_falling = (rises_all rows).0 r.4;
        few_uses = u.1;
        uses_keep = u.2;
        uses_once = u.3;
      },
    ))))

plan_complete : (m : Meaning) (plan : Contents) (rest : List ℕ) → Limits m plan → read_plan m (plan_bytes plan ++ rest) ≡ Ok (plan, rest)
plan_complete m plan rest keep =
    ap (read_plan m) (regroup plan rest)
    ∙ step _ _ _ _ _ (section_complete (λ _. read_object) object_bytes ObjectLimits (λ _ _. Unit {0}) object_exact 1 32 plan.objects _ keep.some_object keep.few_objects keep.objects_keep (free_chain [] plan.objects))
    (step _ _ _ _ _ (section_complete read_row row_bytes RowLimits Rises row_exact 1 16 plan.rows _ keep.some_task keep.few_tasks keep.rows_keep ((rises_all plan.rows).1 keep.not_falling))
    (step _ _ _ _ _ (uses_complete m plan rest keep) refl))

pub accepted_exactly : (m : Meaning) (bytes : List ℕ) → Bytes bytes → AcceptedExactly m bytes
accepted_exactly m bytes are plan rest = (plan_sound m bytes are plan rest, (λ h. ap (read_plan m) h.0 ∙ plan_complete m plan rest h.1))

-- a plan that is all of the bytes is one with nothing after it
pub accepted_whole : (m : Meaning) (bytes : List ℕ) → Bytes bytes → AcceptedWhole m bytes
accepted_whole m bytes are plan = (go (read_plan m bytes) refl, (λ h. ap nothing_after ((accepted_exactly m bytes are plan []).1 (h.0 ∙ sym (append-nil (plan_bytes plan)), h.1))))
  where
    same_plan : (q : Contents) → ◌≡◌ {A = Result Contents Refusal} (Ok q) (Ok plan) → q ≡ plan
    same_plan q e = grind arith

    go : (r : Read Contents) → read_plan m bytes ≡ r → nothing_after r ≡ Ok plan → (bytes ≡ plan_bytes plan) × Limits m plan
    go (Err why) e same = let z : ◌≡◌ {A = ℕ} 0 1 = cc in absurd (omega arith)
    go (Ok (q, [])) e same =
        let (written, keep) = (accepted_exactly m bytes are q []).0 e in
        rw (← same_plan q same) (written ∙ append-nil (plan_bytes q), keep)
    go (Ok (q, b ∷ bs)) e same =
        let some = ne_eqb (length (b ∷ bs)) 0 (λ none. omega (arith, none)) in
        let no = rw some at same in let z : ◌≡◌ {A = ℕ} 0 1 = cc in absurd (omega arith)
