-- Places and the served word: the first that waits, what a place names, and the bits added up. Assumes nothing.
use Rattle.std.proofs.Common.{◌≡◌, ℕ, suc, ◌+◌, ◌*◌, ◌%◌, ◌^◌, ◌<◌, ◌≤◌, min, Bool, true, false, cond, ◌&&◌, eqb, List, [], ◌∷◌, length, ltb, Some, None, Option, zero, sym, refl, ap, ◌∙◌, inl, inr, mod-eq_of_lt, pow-suc, add-one, arith}
use lib.Bits.{bit_or, or_shifted_r}
use lib.Count.{count_trailing_zeros, trailing_of_zero}
use lib.Pow.{pow-lt}
use Rattle.std.specs.List.{position, position_or_len, range_with_len, fold}
use Rattle.std.specs.Option.{unwrap_or}
use Rattle.std.proofs.lemmas.Bool.Decides.{nat_tests}
use Rattle.std.proofs.lemmas.Bool.{cases_Bool, both_ways, and_parts, eqb-true, eq-eqb, lt-ltb, le-ltb}
use Rattle.protocol.specs.Served.{named_by}
use Rattle.protocol.specs.Tasks.{standing_at, is_ready, waits_for, place, place_from, has_place, served_from, served, running}
use Rattle.protocol.specs.declared.words.Task.{Task}
use Rattle.protocol.proofs.Moves.{ready_there}
use Rattle.protocol.proofs.Places.{ready_is, place_most, runs}
use Rattle.protocol.proofs.ServedWord.{has_place_is, place_had, served_agrees}

-- the place among the tasks from k on, by the first of them that waits
place_from_first : (k task : ℕ) (ts : List Task) → (let first = position_or_len (λ (t : Task). waits_for task t.standing) ts in place_from k ts task ≡ cond (ltb first (length ts)) (min (k + first) task) task)
place_from_first k task [] = refl
place_from_first k task (t ∷ ts) =
    let later = place_from_first (suc k) task ts in
    elim (cases_Bool (waits_for task t.standing)) [
      | inl waits ↦ rw waits (grind (arith, nat_tests))
      | inr other ↦ rw other (grind (arith, nat_tests))
    ]

pub place_first : (ts : List Task) (task : ℕ) → place ts task ≡ min (unwrap_or (position (λ (t : Task). waits_for task t.standing) ts) task) task
place_first ts task = let all = place_from_first 0 task ts in grind (arith, nat_tests)

-- a place can only be that of the task that it names
pub place_of_named : (tasks : List Task) → length tasks ≡ 16 → (k : ℕ) → (let j = named_by (standing_at tasks k) k in (is_ready (standing_at tasks j) && eqb (place tasks j) k) ≡ has_place tasks k 0 tasks)
place_of_named tasks whole k = elim (cases_Bool (has_place tasks k 0 tasks)) [
  | inl had ↦ (let (n, ready, at) = has_place_is tasks k 0 tasks had in
      let here : place tasks n ≡ k = ap (place tasks) (zero_is n) ∙ at in
      let named : named_by (standing_at tasks k) k ≡ n = ap (λ p. named_by (standing_at tasks p) p) (sym here) ∙ (served_agrees tasks whole).names_its n ready in
      rw (named, ready, here, had, eq-eqb k k refl))
  | inr none ↦ rw none (not_both (λ ready at. both_ways (has_place tasks k 0 tasks) none (place_had tasks k 0 tasks j (ready_is (standing_at tasks j) ready) (ap (place tasks) (sym (zero_is j)) ∙ eqb-true (place tasks j) k at))))
]
  where
    j : ℕ
    j = named_by (standing_at tasks k) k

    zero_is : (n : ℕ) → n ≡ 0 + n
    zero_is n = omega arith

    not_both : {x y : Bool} → (x ≡ true → y ≡ true → ⊥) → (x && y) ≡ false
    not_both {x} {y} no_way = elim (cases_Bool (x && y)) [ inr e ↦ e | inl e ↦ absurd (no_way (and_parts x y e).0 (and_parts x y e).1) ]

-- the word with the bit of a number that is a place
abbrev pub with_bit : List Task → ℕ → ℕ → ℕ
with_bit tasks word k = cond (has_place tasks k 0 tasks) (bit_or word (1 * 2 ^ k % 65536)) word

-- a bit above those of the word is added to it
module _ (tasks : List Task) (k word : ℕ) (left : k < 16) (small : word < 2 ^ k) where
  bit_added : (with_bit tasks word k < 2 ^ (k + 1)) × (with_bit tasks word k ≡ word + cond (has_place tasks k 0 tasks) (2 ^ k) 0)
  bit_added =
      let fits : 1 * 2 ^ k % 65536 ≡ 1 * 2 ^ k = mod-eq_of_lt (omega (arith, pow-lt left)) in
      let joined : bit_or word (1 * 2 ^ k % 65536) ≡ word + 2 ^ k = ap (bit_or word) fits ∙ (or_shifted_r 1 k word small ∙ omega arith) in
      let twice : 2 ^ (k + 1) ≡ 2 ^ k * 2 = ap (λ n. 2 ^ n) (add-one k) ∙ pow-suc 2 k in
      elim (cases_Bool (has_place tasks k 0 tasks)) [
        | inl had ↦ rw had (omega (arith, joined, twice), joined)
        | inr none ↦ rw none (omega (arith, twice), omega arith)
      ]

-- the bits of n numbers from k on
pub served_fold : (tasks : List Task) (k n word : ℕ) → k + n ≤ 16 → word < 2 ^ k → fold (with_bit tasks) word (range_with_len k n) ≡ word + served_from tasks k n
served_fold tasks k zero word l small = omega arith
served_fold tasks k (suc n) word l small =
    let (less, added) = bit_added tasks k word (omega arith) small in
    let rest = rw add-one at (served_fold tasks (k + 1) n (with_bit tasks word k) (omega arith) less) in
    rw add-one (rest ∙ omega (arith, added))

-- the lowest bit of the served word tells who runs
pub running_at : (tasks : List Task) → length tasks ≡ 16 → (let p = count_trailing_zeros 16 (served tasks) in running tasks ≡ cond (ltb p 16) (Some (named_by (standing_at tasks p) p)) None)
running_at tasks whole = go (running tasks) refl
  where
    p : ℕ
    p = count_trailing_zeros 16 (served tasks)

    go : (o : Option ℕ) → running tasks ≡ o → o ≡ cond (ltb p 16) (Some (named_by (standing_at tasks p) p)) None
    go None e = rw (le-ltb p 16 (omega (arith, ap (count_trailing_zeros 16) ((served_agrees tasks whole).nobody e) ∙ trailing_of_zero 16)))
    go (Some j) e =
        let at : place tasks j ≡ p = (served_agrees tasks whole).lowest j e in
        let there : p < 16 = omega (arith, at, whole, place_most 0 tasks j, ready_there tasks j (runs tasks j e).ready) in
        rw (lt-ltb p 16 there) (ap Some (sym ((served_agrees tasks whole).names_its j (runs tasks j e).ready) ∙ ap (λ n. named_by (standing_at tasks n) n) at))
