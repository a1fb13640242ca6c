-- Who runs: what the running task and the places of Tasks.antt say of the standings.
use Rattle.std.proofs.Common.{◌≡◌, ℕ, zero, suc, ◌+◌, ◌<◌, ◌≤◌, min, true, ltb, ◌⊎◌, List, [], ◌∷◌, Some, None, Option, sym, refl, ap, ◌∙◌, subst, inl, inr, arith}
use Rattle.std.proofs.lemmas.Bool.{cond_both, cases_lt, cases_Bool, cond-true, eq-eqb, eqb-true, ltb-true, ltb-false, false≢true}
use Rattle.protocol.specs.declared.words.Standing.{Standing}
use Rattle.protocol.specs.declared.words.Standing.TheVariants.{Resting, Ready, Waiting}
use Rattle.protocol.specs.declared.words.Task.{Task}
use Rattle.protocol.specs.Tasks.{standing_at, is_ready, waits_for, place_from, place, first_of, running_from, running}

-- ---- standings

-- a resting task is not ready
pub rest_not_ready : Resting ≡ Ready → ⊥
rest_not_ready e = let z : ◌≡◌ {A = ℕ} 0 1 = cc in omega arith

-- a resting task does not wait
pub rest_not_wait : (h : ℕ) → Resting ≡ Waiting h → ⊥
rest_not_wait h e = let z : ◌≡◌ {A = ℕ} 0 1 = cc in omega arith

-- a ready task does not wait
pub ready_not_wait : (h : ℕ) → Ready ≡ Waiting h → ⊥
ready_not_wait h e = let z : ◌≡◌ {A = ℕ} 0 1 = cc in omega arith

-- the test for waiting, from the standing and back
pub waits_true : (h : ℕ) (s : Standing) → s ≡ Waiting h → waits_for h s ≡ true
waits_true h s e = rw e (eq-eqb h h refl)

pub waits_is : (h : ℕ) (s : Standing) → waits_for h s ≡ true → s ≡ Waiting h
waits_is h Resting t = absurd (false≢true t)
waits_is h Ready t = absurd (false≢true t)
waits_is h (Waiting g) t = ap Waiting (eqb-true g h t)

-- a task waits for h, or it does not
pub waits_cases : (h : ℕ) (s : Standing) → (s ≡ Waiting h) ⊎ (s ≡ Waiting h → ⊥)
waits_cases h s = elim (cases_Bool (waits_for h s)) [ inl t ↦ inl (waits_is h s t) | inr f ↦ inr (λ e. false≢true (sym f ∙ waits_true h s e)) ]

-- the test for being ready
pub ready_is : (s : Standing) → is_ready s ≡ true → s ≡ Ready
ready_is Resting t = absurd (false≢true t)
ready_is Ready t = refl
ready_is (Waiting g) t = absurd (false≢true t)

-- ---- places

-- a place is at most the task's own number
pub place_most : (k : ℕ) (ts : List Task) (g : ℕ) → place_from k ts g ≤ g
place_most k [] g = omega arith
place_most k (t ∷ ts) g = let h = place_most (suc k) ts g in cond_both (waits_for g t.standing) (min k (place_from (suc k) ts g)) (place_from (suc k) ts g) (λ x. x ≤ g) (λ _. omega arith) (λ _. h)

-- and at most the number of each that waits for it
pub place_waiter : (k : ℕ) (ts : List Task) (g n : ℕ) → standing_at ts n ≡ Waiting g → place_from k ts g ≤ k + n
place_waiter k [] g n w = absurd (rest_not_wait g w)
place_waiter k (t ∷ ts) g zero w = rw (cond-true (waits_for g t.standing) (min k (place_from (suc k) ts g)) (place_from (suc k) ts g) (waits_true g t.standing w)) (omega arith)
place_waiter k (t ∷ ts) g (suc n) w = let h = place_waiter (suc k) ts g n w in cond_both (waits_for g t.standing) (min k (place_from (suc k) ts g)) (place_from (suc k) ts g) (λ x. x ≤ k + suc n) (λ _. omega arith) (λ _. omega arith)

-- x is the task's own number, or the number, from k on, of one that waits for it
abbrev pub IsPlace : ℕ → List Task → ℕ → ℕ → Type 0
IsPlace k ts g x = (x ≡ g) ⊎ ((n : ℕ) × (x ≡ k + n) × (standing_at ts n ≡ Waiting g))

-- a place is such a number
pub place_is : (k : ℕ) (ts : List Task) (g : ℕ) → IsPlace k ts g (place_from k ts g)
place_is k [] g = inl refl
place_is k (t ∷ ts) g =
    let rest = place_from (suc k) ts g in
    let later : IsPlace k (t ∷ ts) g rest = elim (place_is (suc k) ts g) [ inl e ↦ inl e | inr w ↦ inr (suc w.0, omega arith, w.2) ] in
    cond_both (waits_for g t.standing) (min k rest) rest (IsPlace k (t ∷ ts) g)
    (λ w. elim (cases_lt rest k) [
      | inl l ↦ (let m : rest ≡ min k rest = omega arith in subst (IsPlace k (t ∷ ts) g) m later)
      | inr l ↦ inr (0, omega arith, waits_is g t.standing w)
    ])
    (λ _. later)

-- ---- the running task

-- of the ready ones of ts, the tasks from k on, j has the smallest place
record Foremost (tasks : List Task) (k : ℕ) (ts : List Task) (j : ℕ) : Type 0 where
  at : ℕ
  number : j ≡ k + at
  ready : standing_at ts at ≡ Ready
  least : (m n : ℕ) → n ≡ k + m → standing_at ts m ≡ Ready → place tasks j ≤ place tasks n

-- what running_from answers
abbrev Found : List Task → ℕ → List Task → Option ℕ → Type 0
Found tasks k ts None = (m : ℕ) → standing_at ts m ≡ Ready → ⊥
Found tasks k ts (Some j) = Foremost tasks k ts j

-- the first of them is not ready
found_later : (tasks : List Task) (k : ℕ) (t : Task) (ts : List Task) → (t.standing ≡ Ready → ⊥) → (o : Option ℕ) → Found tasks (suc k) ts o → Found tasks k (t ∷ ts) o
found_later tasks k t ts no_here None f = elim [ zero ↦ no_here | suc m ↦ f m ]
found_later tasks k t ts no_here (Some j) f = record {
  at = suc f.at;
  number = omega (arith, f.number);
  ready = f.ready;
  least = elim [ zero ↦ λ n e r. absurd (no_here r) | suc m ↦ λ n e. f.least m n (omega arith) ];
}

-- it is, and has a smaller place than those after it
found_here : (tasks : List Task) (k : ℕ) (t : Task) (ts : List Task) → t.standing ≡ Ready → ((m n : ℕ) → n ≡ suc k + m → standing_at ts m ≡ Ready → place tasks k ≤ place tasks n) → Foremost tasks k (t ∷ ts) k
found_here tasks k t ts here less = record {
  at = 0;
  number = omega arith;
  ready = here;
  least = elim [
    | zero ↦ λ n e r. let same : n ≡ k = omega arith in rw same (omega arith)
    | suc m ↦ λ n e. less m n (omega arith)
  ];
}

-- it is, and is put against the best one after it
found_first : (tasks : List Task) (k : ℕ) (t : Task) (ts : List Task) → t.standing ≡ Ready → (o : Option ℕ) → Found tasks (suc k) ts o → Found tasks k (t ∷ ts) (first_of tasks k o)
found_first tasks k t ts here None f = found_here tasks k t ts here (λ m n e r. absurd (f m r))
found_first tasks k t ts here (Some j) f = cond_both (ltb (place tasks j) (place tasks k)) (Some j) (Some k) (Found tasks k (t ∷ ts))
    (λ l. record {
      at = suc f.at;
      number = omega (arith, f.number);
      ready = f.ready;
      least = elim [
        | zero ↦ λ n e r. let same : n ≡ k = omega arith in rw same (let b = ltb-true (place tasks j) (place tasks k) l in omega arith)
        | suc m ↦ λ n e. f.least m n (omega arith)
      ];
    })
    (λ l. let b = ltb-false (place tasks j) (place tasks k) l in found_here tasks k t ts here (λ m n e r. let c = f.least m n e r in omega arith))

-- running_from finds it
found : (tasks : List Task) (k : ℕ) (ts : List Task) → Found tasks k ts (running_from tasks k ts)
found tasks k [] = λ m e. rest_not_ready e
found tasks k (t ∷ ts) =
    let rest = running_from tasks (suc k) ts in
    cond_both (is_ready t.standing) (first_of tasks k rest) rest (Found tasks k (t ∷ ts))
    (λ r. found_first tasks k t ts (ready_is t.standing r) rest (found tasks (suc k) ts))
    (λ r. found_later tasks k t ts (λ e. false≢true (sym r ∙ ap is_ready e)) rest (found tasks (suc k) ts))

-- where nobody runs, nobody is ready
pub nobody_ready : (tasks : List Task) → running tasks ≡ None → (i : ℕ) → standing_at tasks i ≡ Ready → ⊥
nobody_ready tasks none i r = subst (Found tasks 0 tasks) none (found tasks 0 tasks) i r

-- no ready task has a smaller place than the running one
pub runs_least : (tasks : List Task) (j : ℕ) → running tasks ≡ Some j → (k : ℕ) → standing_at tasks k ≡ Ready → place tasks j ≤ place tasks k
runs_least tasks j run k r = let f : Foremost tasks 0 tasks j = subst (Found tasks 0 tasks) run (found tasks 0 tasks) in f.least k k (omega arith) r

-- j is ready, and of a ready task g and those that wait for it, one is numbered below j only if some task up to it waits for j
pub record Runs (standing : ℕ → Standing) (j : ℕ) : Type 0 where
  pub ready : standing j ≡ Ready
  pub before : (i g : ℕ) → standing g ≡ Ready → (i ≡ g) ⊎ (standing i ≡ Waiting g) → i < j → (k : ℕ) × (k ≤ i) × (standing k ≡ Waiting j)

-- so it is with the running task
pub runs : (tasks : List Task) (j : ℕ) → running tasks ≡ Some j → Runs (standing_at tasks) j
runs tasks j run =
    let f : Foremost tasks 0 tasks j = subst (Found tasks 0 tasks) run (found tasks 0 tasks) in
    let here : j ≡ f.at = omega (arith, f.number) in
    record {
      ready = rw here f.ready;
      before = λ i g r served l.
          let first = f.least g g (omega arith) r in
          let small : place tasks g ≤ i = elim served [ inl e ↦ (let m = place_most 0 tasks g in omega arith) | inr w ↦ (let m = place_waiter 0 tasks g i w in omega arith) ] in
          elim (place_is 0 tasks j) [
            | inl own ↦ absurd (omega arith)
            | inr w ↦ (w.0, omega (arith, w.1), w.2)
          ];
    }
