-- The served word: its bits are the places of the ready tasks, and the lowest is the running task's.
use Rattle.std.proofs.Common.{◌≡◌, ℕ, zero, suc, ◌+◌, ◌*◌, ◌/◌, ◌%◌, ◌^◌, ◌<◌, Bool, true, false, cond, ◌&&◌, eqb, List, [], ◌∷◌, length, sym, refl, ap, ◌∙◌, inl, inr, mul_assoc, add-mul, pow-suc, zero-mul, mul-one, arith}
use lib.Count.{count_trailing_zeros}
use Rattle.std.proofs.lemmas.Bool.{cond-true, cond-false, cases_lt, cases_Bool, false≢true, eqb-true, eq-eqb, and_parts, and_from, or_cases, or_left, or_right}
use Rattle.protocol.specs.declared.words.Standing.TheVariants.{Ready}
use Rattle.protocol.specs.declared.words.Task.{Task}
use Rattle.protocol.specs.Tasks.{standing_at, is_ready, place, has_place, served_from, served}
use Rattle.protocol.specs.Served.{Served, named_by}
use Rattle.protocol.proofs.Places.{place_most, place_waiter, place_is, ready_is, rest_not_ready, nobody_ready, runs, runs_least}
use Rattle.protocol.proofs.Moves.{ready_there}
use Rattle.protocol.proofs.Bits.{word, word_bit, word_past, word_none, word_lowest}

-- where some ready task has the place, there is one
pub has_place_is : (tasks : List Task) (p k : ℕ) (ts : List Task) → has_place tasks p k ts ≡ true → (n : ℕ) × (standing_at ts n ≡ Ready) × (place tasks (k + n) ≡ p)
has_place_is tasks p k [] h = absurd (false≢true h)
has_place_is tasks p k (t ∷ ts) h = elim (or_cases (is_ready t.standing && eqb (place tasks k) p) (has_place tasks p (suc k) ts) h) [
  | inl e ↦ (let (r, q) = and_parts (is_ready t.standing) (eqb (place tasks k) p) e in
      let here : k + 0 ≡ k = omega arith in
      (0, ready_is t.standing r, rw here (eqb-true (place tasks k) p q)))
  | inr e ↦ (let (n, r, q) = has_place_is tasks p (suc k) ts e in
      let there : k + suc n ≡ suc k + n = omega arith in
      (suc n, r, rw there q))
]

-- and a ready task's place is had
pub place_had : (tasks : List Task) (p k : ℕ) (ts : List Task) (n : ℕ) → standing_at ts n ≡ Ready → place tasks (k + n) ≡ p → has_place tasks p k ts ≡ true
place_had tasks p k [] n r q = absurd (rest_not_ready r)
place_had tasks p k (t ∷ ts) zero r q = let here : k ≡ k + 0 = omega arith in or_left (is_ready t.standing && eqb (place tasks k) p) (has_place tasks p (suc k) ts) (and_from (is_ready t.standing) (eqb (place tasks k) p) (ap is_ready r) (eq-eqb (place tasks k) p (ap (place tasks) here ∙ q)))
place_had tasks p k (t ∷ ts) (suc n) r q = let there : suc k + n ≡ k + suc n = omega arith in or_right (is_ready t.standing && eqb (place tasks k) p) (has_place tasks p (suc k) ts) (place_had tasks p (suc k) ts n r (ap (place tasks) there ∙ q))

-- the served word is the word of these tests
one_bit : (b : Bool) (w x : ℕ) → cond b x 0 + w * (x * 2) ≡ (cond b 1 0 + 2 * w) * x
one_bit true w x = omega (arith, mul_assoc w x 2, mul_assoc 2 w x, add-mul 1 (2 * w) x)
one_bit false w x = omega (arith, mul_assoc w x 2, mul_assoc 2 w x, add-mul 0 (2 * w) x)

-- the bits from k on
served_word : (tasks : List Task) (k n : ℕ) → served_from tasks k n ≡ word (λ p. has_place tasks p 0 tasks) k n * 2 ^ k
served_word tasks k zero = sym (zero-mul (2 ^ k))
served_word tasks k (suc n) =
    let rest = word (λ p. has_place tasks p 0 tasks) (suc k) n in
    ap (λ w. cond (has_place tasks k 0 tasks) (2 ^ k) 0 + w) (served_word tasks (suc k) n ∙ ap (λ x. rest * x) (pow-suc 2 k)) ∙ one_bit (has_place tasks k 0 tasks) rest (2 ^ k)

module _ (tasks : List Task) (whole : length tasks ≡ 16) where
  -- all of them
  is_word : served tasks ≡ word (λ p. has_place tasks p 0 tasks) 0 16
  is_word = served_word tasks 0 16 ∙ mul-one (word (λ p. has_place tasks p 0 tasks) 0 16)

  -- a ready task's place is one of the 16
  place_small : (j : ℕ) → standing_at tasks j ≡ Ready → place tasks j < 16
  place_small j r = omega (arith, place_most 0 tasks j, ready_there tasks j r)

  -- a ready task passes at its place
  place_passes : (j m : ℕ) → standing_at tasks j ≡ Ready → m ≡ place tasks j → has_place tasks m 0 tasks ≡ true
  place_passes j m r e = let same : 0 + j ≡ j = omega arith in place_had tasks m 0 tasks j r (ap (place tasks) same ∙ sym e)

  -- and whoever passes is ready and has that place
  passes_place : (p : ℕ) → has_place tasks p 0 tasks ≡ true → (j : ℕ) × (standing_at tasks j ≡ Ready) × (place tasks j ≡ p)
  passes_place p h = let (n, r, q) = has_place_is tasks p 0 tasks h in let same : n ≡ 0 + n = omega arith in (n, r, ap (place tasks) same ∙ q)

  -- the place of a ready task names that task
  names_its : (j : ℕ) → standing_at tasks j ≡ Ready → named_by (standing_at tasks (place tasks j)) (place tasks j) ≡ j
  names_its j r = elim (place_is 0 tasks j) [
    | inl own ↦ ap (λ x. named_by x (place tasks j)) (ap (standing_at tasks) own ∙ r) ∙ own
    | inr w ↦ (let here : place tasks j ≡ w.0 = omega (arith, w.1) in ap (λ x. named_by x (place tasks j)) (ap (standing_at tasks) here ∙ w.2))
  ]

  -- the served word, the places and the running task agree
  pub served_agrees : Served tasks
  served_agrees = record {
    at_most_own = place_most 0 tasks;
    at_most_waiter = λ j i w. omega (arith, place_waiter 0 tasks j i w);
    own_or_waiter = λ j. elim (place_is 0 tasks j) [
      | inl own ↦ inl own
      | inr w ↦ (let here : place tasks j ≡ w.0 = omega (arith, w.1) in inr (ap (standing_at tasks) here ∙ w.2))
    ];
    runs_ready = λ j run. (runs tasks j run).ready;
    runs_least = λ j i run r. runs_least tasks j run i r;
    lowest = λ j run. let r = (runs tasks j run).ready in sym (ap (count_trailing_zeros 16) is_word ∙ word_lowest (λ p. has_place tasks p 0 tasks) 16 0 (place tasks j) (place_small j r) (λ m e. place_passes j m r (omega arith)) (λ m low high. elim (cases_Bool (has_place tasks m 0 tasks)) [
      | inr f ↦ f
      | inl t ↦ (let (i, ri, q) = passes_place m t in absurd (omega (arith, runs_least tasks j run i ri)))
    ]));
    nobody = λ none. is_word ∙ word_none (λ p. has_place tasks p 0 tasks) 16 0 (λ m. elim (cases_Bool (has_place tasks m 0 tasks)) [
      | inr f ↦ f
      | inl t ↦ (let (i, ri, q) = passes_place m t in absurd (nobody_ready tasks none i ri))
    ]);
    set_bit = λ j r. ap (λ w. w / 2 ^ (place tasks j) % 2) is_word ∙ (word_bit (λ p. has_place tasks p 0 tasks) 16 0 (place tasks j) (place tasks j) (omega arith) (place_small j r) ∙ cond-true (has_place tasks (place tasks j) 0 tasks) 1 0 (place_passes j (place tasks j) r refl));
    bit_set = λ k b. passes_place k (bit_passes k (ap (λ w. w / 2 ^ k % 2) (sym is_word) ∙ b));
    names_its = names_its;
    one_each = λ i j ri rj e. sym (names_its i ri) ∙ (ap (λ p. named_by (standing_at tasks p) p) e ∙ names_its j rj);
  }
    where
      bit_passes : (k : ℕ) → word (λ p. has_place tasks p 0 tasks) 0 16 / 2 ^ k % 2 ≡ 1 → has_place tasks k 0 tasks ≡ true
      bit_passes k b = elim (cases_Bool (has_place tasks k 0 tasks)) [
        | inl t ↦ t
        | inr f ↦ elim (cases_lt k 16) [
          | inl l ↦ (let e = word_bit (λ p. has_place tasks p 0 tasks) 16 0 k k (omega arith) l in let z : ◌≡◌ {A = ℕ} 0 1 = cc (cond-false {A = ℕ} (has_place tasks k 0 tasks) 1 0 f) in absurd (omega arith))
          | inr past ↦ (let e = word_past (λ p. has_place tasks p 0 tasks) 16 0 k past in absurd (omega arith))
        ]
      ]
