-- A reader that accepts exactly what is written, from one element to a counted section of them. Assumes nothing.
use Rattle.std.proofs.Common.{◌≡◌, ℕ, zero, suc, ◌+◌, ◌<◌, ◌≤◌, Bool, true, false, cond, ◌||◌, ltb, List, [], ◌∷◌, ◌++◌, length, get_or, Ok, Err, Result, sym, refl, ap, ◌∙◌, arith}
use Rattle.std.specs.List.{flat_map, AllByRecursion}
use Rattle.std.proofs.lemmas.List.{append-nil, append_assoc, get_or-append-add}
use Rattle.std.proofs.lemmas.Bool.{ltb-false, le-ltb, or_parts}
use Rattle.plans.specs.Reading.{Read, and_then, read_some, counted}
use Rattle.plans.specs.declared.refusal.Refusal.{Refusal}
use Rattle.plans.specs.declared.refusal.Refusal.TheVariants.{CountOutOfLimits}

-- every number is a byte
abbrev pub Bytes : List ℕ → Type 0
Bytes bytes = (i : ℕ) → get_or bytes i 0 < 256

pub bytes_after : (front rest : List ℕ) → Bytes (front ++ rest) → Bytes rest
bytes_after front rest are i = rw (get_or-append-add front rest i 0) at (are (length front + i))

-- what is accepted has passed the test
pub passed : {A : Type 0} (test : Bool) (why : Refusal) (more : Result A Refusal) (x : A) → cond test (Err why) more ≡ Ok x → (test ≡ false) × (more ≡ Ok x)
passed true why more x e = let z : ◌≡◌ {A = ℕ} 0 1 = cc in absurd (omega arith)
passed false why more x e = (refl, e)

-- the same was read, and the same is left
pub same_read : {A : Type 0} (x y : A) (rest left : List ℕ) → ◌≡◌ {A = Read A} (Ok (x, rest)) (Ok (y, left)) → (x ≡ y) × (rest ≡ left)
same_read {A} x y rest left e = let p : ◌≡◌ {A = A × List ℕ} (x, rest) (y, left) = cc in (ap (λ q. q.0) p, ap (λ q. q.1) p)

-- what is accepted was accepted at each step
pub by_steps : {A B P : Type 0} (first : Read A) (next : A → List ℕ → Read B) (y : B × List ℕ) → and_then first next ≡ Ok y → ((x : A) (rest : List ℕ) → first ≡ Ok (x, rest) → next x rest ≡ Ok y → P) → P
by_steps (Ok p) next y e more = more p.0 p.1 refl e
by_steps (Err why) next y e more = let z : ◌≡◌ {A = ℕ} 0 1 = cc in absurd (omega arith)

-- what is read first is read, and then the rest
pub step : {A B : Type 0} (first : Read A) (next : A → List ℕ → Read B) (x : A) (rest : List ℕ) (y : Read B) → first ≡ Ok (x, rest) → next x rest ≡ y → and_then first next ≡ y
step first next x rest y e h = ap (λ r. and_then r next) e ∙ h

pub and_then_assoc : {A B C : Type 0} (first : Read A) (next : A → List ℕ → Read B) (last : B → List ℕ → Read C) → and_then (and_then first next) last ≡ and_then first (λ x rest. and_then (next x rest) last)
and_then_assoc (Ok p) next last = refl
and_then_assoc (Err why) next last = refl

-- it holds of each element and those before it
abbrev pub Chain : {A : Type 0} → (List A → A → Type 0) → List A → List A → Type 0
Chain Q before [] = Unit {0}
Chain Q before (x ∷ xs) = Q before x × Chain Q (before ++ (x ∷ [])) xs

pub free_chain : {A : Type 0} (before xs : List A) → Chain (λ _ _. Unit {0}) before xs
free_chain before [] = tt
free_chain before (x ∷ xs) = (tt, free_chain (before ++ (x ∷ [])) xs)

-- a reader accepts exactly what is written of an element with limits L, where Q holds of it and those before it
pub record Exact {A : Type 0} (one : List A → List ℕ → Read A) (written : A → List ℕ) (L : A → Type 0) (Q : List A → A → Type 0) : Type 0 where
  pub sound : (before : List A) (bytes : List ℕ) (x : A) (rest : List ℕ) → Bytes bytes → one before bytes ≡ Ok (x, rest) → (bytes ≡ written x ++ rest) × L x × Q before x
  pub complete : (before : List A) (x : A) (rest : List ℕ) → L x → Q before x → one before (written x ++ rest) ≡ Ok (x, rest)

module _ {A : Type 0} (one : List A → List ℕ → Read A) (written : A → List ℕ) (L : A → Type 0) (Q : List A → A → Type 0) (exact : Exact one written L Q) where
  pub some_sound : (n : ℕ) (before : List A) (bytes : List ℕ) (all : List A) (rest : List ℕ) → Bytes bytes → read_some one n before bytes ≡ Ok (all, rest) → (xs : List A) × (all ≡ before ++ xs) × (length xs ≡ n) × (bytes ≡ flat_map written xs ++ rest) × AllByRecursion L xs × Chain Q before xs
  some_sound zero before bytes all rest are e = let s = same_read before all bytes rest e in ([], sym s.0 ∙ sym (append-nil before), refl, s.1, tt, tt)
  some_sound (suc n) before bytes all rest are e =
      by_steps (one before bytes) (λ x left. read_some one n (before ++ (x ∷ [])) left) (all, rest) e (λ x left e₁ e₂.
      let h = exact.sound before bytes x left are e₁ in
      let t = some_sound n (before ++ (x ∷ [])) left all rest (bytes_after (written x) left (rw h.0 at are)) e₂ in
      (x ∷ t.0, t.1 ∙ append_assoc before (x ∷ []) t.0, ap suc t.2, h.0 ∙ ap (λ more. written x ++ more) t.3 ∙ sym (append_assoc (written x) (flat_map written t.0) rest), (h.1, t.4), (h.2, t.5)))

  pub some_complete : (before xs : List A) (rest : List ℕ) → AllByRecursion L xs → Chain Q before xs → read_some one (length xs) before (flat_map written xs ++ rest) ≡ Ok (before ++ xs, rest)
  some_complete before [] rest keep chain = rw append-nil
  some_complete before (x ∷ xs) rest keep chain = rw (append_assoc (written x) (flat_map written xs) rest, exact.complete before x (flat_map written xs ++ rest) keep.0 chain.0) (some_complete (before ++ (x ∷ [])) xs rest keep.1 chain.1 ∙ rw append_assoc)

  -- the same, with none before
  pub whole_sound : (n : ℕ) (bytes : List ℕ) (xs : List A) (rest : List ℕ) → Bytes bytes → read_some one n [] bytes ≡ Ok (xs, rest) → (length xs ≡ n) × (bytes ≡ flat_map written xs ++ rest) × AllByRecursion L xs × Chain Q [] xs
  whole_sound n bytes xs rest are e = let s = some_sound n [] bytes xs rest are e in rw s.1 (s.2, s.3, s.4, s.5)

  module _ (low high : ℕ) where
    pub counted_sound : (n : ℕ) (bytes : List ℕ) (xs : List A) (rest : List ℕ) → Bytes bytes → counted low high n (λ m. read_some one m [] bytes) ≡ Ok (xs, rest) → (length xs ≡ n) × (low ≤ length xs) × (length xs ≤ high) × (bytes ≡ flat_map written xs ++ rest) × AllByRecursion L xs × Chain Q [] xs
    counted_sound n bytes xs rest are e =
        let p = passed (ltb n low || ltb high n) CountOutOfLimits (read_some one n [] bytes) (xs, rest) e in
        let o = or_parts (ltb n low) (ltb high n) p.0 in
        let s = whole_sound n bytes xs rest are p.1 in
        (s.0, omega (arith, ltb-false n low o.0), omega (arith, ltb-false high n o.1), s.1, s.2, s.3)

    pub counted_complete : (xs : List A) (rest : List ℕ) → low ≤ length xs → length xs ≤ high → AllByRecursion L xs → Chain Q [] xs → counted low high (length xs) (λ m. read_some one m [] (flat_map written xs ++ rest)) ≡ Ok (xs, rest)
    counted_complete xs rest least most keep chain = rw (le-ltb (length xs) low least, le-ltb high (length xs) most) (some_complete [] xs rest keep chain)
