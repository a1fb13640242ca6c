-- The list lemmas that the shelf lacks: members of a list, and what holds of any two of them.
use Rattle.std.proofs.Common.{◌≡◌, zero, suc, Bool, true, ◌⊎◌, List, [], ◌∷◌, ◌++◌, filter, refl, ap, ◌∙◌, subst, inl, inr, arith}
use Rattle.std.specs.List.{ContainsAt, AllByRecursion}
use Rattle.std.proofs.ByRecursion.{all-has, all_kept_by, kept_by_passes, all_has_itself, All-push, has_push}
use Rattle.std.proofs.lemmas.Bool.{cond_both, or_cases, or_left, or_right, cond-true, false≢true}
use Rattle.protocol.specs.Machine.{any}

-- an empty list has no member
pub has_none : {X : Type 0} (x : X) → ContainsAt [] x → ⊥
has_none x (k, in', at) = omega arith

-- the first element is a member
pub has_here : {X : Type 0} (x : X) (xs : List X) → ContainsAt (x ∷ xs) x
has_here x xs = (0, omega arith, λ d. refl)

-- a member of the rest is a member
pub has_there : {X : Type 0} (y : X) (xs : List X) (x : X) → ContainsAt xs x → ContainsAt (y ∷ xs) x
has_there y xs x (k, in', at) = (suc k, omega arith, at)

-- a member is the first element, or one of the rest
pub has_cases : {X : Type 0} (y : X) (xs : List X) (x : X) → ContainsAt (y ∷ xs) x → (y ≡ x) ⊎ ContainsAt xs x
has_cases y xs x (zero, in', at) = inl (at y)
has_cases y xs x (suc k, in', at) = inr (k, omega arith, at)

-- a member of what a filter keeps is a member, and passes
pub has_kept : {X : Type 0} (p : X → Bool) (xs : List X) (x : X) → ContainsAt (filter p xs) x → ContainsAt xs x × (p x ≡ true)
has_kept p xs x h = (all-has (ContainsAt xs) (filter p xs) x (all_kept_by p (ContainsAt xs) xs (all_has_itself xs)) h, all-has (λ y. p y ≡ true) (filter p xs) x (kept_by_passes p xs) h)

-- a member that passes is kept
pub kept_has : {X : Type 0} (p : X → Bool) (xs : List X) (x : X) → ContainsAt xs x → p x ≡ true → ContainsAt (filter p xs) x
kept_has p [] x h t = h
kept_has p (y ∷ ys) x h t = elim (has_cases y ys x h) [
  | inl e ↦ rw (cond-true (p y) (y ∷ filter p ys) (filter p ys) (ap p e ∙ t)) (subst (λ z. ContainsAt (y ∷ filter p ys) z) e (has_here y (filter p ys)))
  | inr i ↦ cond_both (p y) (y ∷ filter p ys) (filter p ys) (λ zs. ContainsAt zs x) (λ _. has_there y (filter p ys) x (kept_has p ys x i t)) (λ _. kept_has p ys x i t)
]

-- where some element passes, there is one
pub has_any : {X : Type 0} (p : X → Bool) (xs : List X) → any p xs ≡ true → (x : X) × ContainsAt xs x × (p x ≡ true)
has_any p [] h = absurd (false≢true h)
has_any p (y ∷ ys) h = elim (or_cases (p y) (any p ys) h) [
  | inl e ↦ (y, has_here y ys, e)
  | inr e ↦ (let (x, i, t) = has_any p ys e in (x, has_there y ys x i, t))
]

-- where a member passes, some element does
pub any_has : {X : Type 0} (p : X → Bool) (xs : List X) (x : X) → ContainsAt xs x → p x ≡ true → any p xs ≡ true
any_has p [] x i t = absurd (has_none x i)
any_has p (y ∷ ys) x i t = elim (has_cases y ys x i) [
  | inl e ↦ or_left (p y) (any p ys) (ap p e ∙ t)
  | inr j ↦ or_right (p y) (any p ys) (any_has p ys x j t)
]

-- what holds of all of two lists joined holds of all of each
pub all_parts : {X : Type 0} (P : X → Type 0) (xs ys : List X) → AllByRecursion P (xs ++ ys) → AllByRecursion P xs × AllByRecursion P ys
all_parts P [] ys h = (tt, h)
all_parts P (x ∷ xs) ys h = let (front, back) = all_parts P xs ys h.1 in ((h.0, front), back)

-- the relation holds of any two elements, the older first
abbrev pub Pairs : {X : Type 0} → (X → X → Type 0) → List X → Type 0
Pairs R [] = Unit {0}
Pairs R (x ∷ xs) = AllByRecursion (R x) xs × Pairs R xs

-- of a list with one more, where it holds of each with that one
pub pairs_push : {X : Type 0} (R : X → X → Type 0) (xs : List X) (x : X) → Pairs R xs → ((y : X) → ContainsAt xs y → R y x) → Pairs R (xs ++ x ∷ [])
pairs_push R [] x h k = (tt, tt)
pairs_push R (y ∷ ys) x h k = (All-push (R y) ys x h.0 (k y (has_here y ys)), pairs_push R ys x h.1 (λ z i. k z (has_there y ys z i)))

-- of what a filter keeps
pub pairs_kept : {X : Type 0} (R : X → X → Type 0) (p : X → Bool) (xs : List X) → Pairs R xs → Pairs R (filter p xs)
pairs_kept R p [] h = tt
pairs_kept R p (y ∷ ys) h = cond_both (p y) (y ∷ filter p ys) (filter p ys) (Pairs R) (λ _. (all_kept_by p (R y) ys h.0, pairs_kept R p ys h.1)) (λ _. pairs_kept R p ys h.1)

-- of the newest element it holds with every other
pub pairs_newest : {X : Type 0} (R : X → X → Type 0) (xs : List X) (x y : X) → Pairs R (xs ++ x ∷ []) → ContainsAt (xs ++ x ∷ []) y → R y x ⊎ (x ≡ y)
pairs_newest R [] x y h i = elim (has_cases x [] y i) [ inl e ↦ inr e | inr n ↦ absurd (has_none y n) ]
pairs_newest R (z ∷ zs) x y h i = elim (has_cases z (zs ++ x ∷ []) y i) [
  | inl e ↦ inl (subst (λ w. R w x) e (all-has (R z) (zs ++ x ∷ []) x h.0 (has_push zs x)))
  | inr j ↦ pairs_newest R zs x y h.1 j
]

-- of two elements wherever they stand
pub pairs_two : {X : Type 0} (R : X → X → Type 0) (older between newer : List X) (x y : X) → Pairs R (older ++ (x ∷ (between ++ (y ∷ newer)))) → R x y
pairs_two R [] between newer x y h = (all_parts (R x) between (y ∷ newer) h.0).1.0
pairs_two R (z ∷ older) between newer x y h = pairs_two R older between newer x y h.1
