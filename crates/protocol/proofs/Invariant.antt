-- What every call keeps: why tasks wait, and how ceilings and priorities stand in the lock stack.
use Rattle.std.proofs.Common.{◌≡◌, ℕ, ◌<◌, ◌≤◌, true, not, List, [], ◌∷◌, ◌++◌, filter, sym, refl, ap, ◌∙◌, subst, inl, inr, arith}
use Rattle.std.specs.List.{ContainsAt}
use Rattle.std.proofs.ByRecursion.{has_push_cases, has_append_left}
use Rattle.std.proofs.lemmas.Bool.{cases_order, cases_lt, cases_eq, false≢true, not-true, not_from_false, eqb-false, ne_eqb}
use Rattle.protocol.specs.declared.words.Standing.{Standing}
use Rattle.protocol.specs.declared.words.Standing.TheVariants.{Resting, Ready, Waiting}
use Rattle.protocol.specs.declared.words.LockRecord.{LockRecord}
use Rattle.protocol.specs.Tasks.{is_open}
use Rattle.protocol.specs.Machine.{own_lock}
use Rattle.protocol.proofs.Lists.{Pairs, pairs_push, pairs_kept, has_kept, kept_has}
use Rattle.protocol.proofs.Places.{Runs, rest_not_wait, ready_not_wait, waits_cases}

-- task h, lower than i, holds a lock with a ceiling at most i: it blocks i
pub record Blocker (ceil : LockRecord → ℕ) (locks : List LockRecord) (i h : ℕ) : Type 0 where
  pub lower : i < h
  pub lock : LockRecord
  pub held : ContainsAt locks lock
  pub own : lock.task ≡ h
  pub reaches : ceil lock ≤ i

-- of two locks, the newer is not of a lower task
abbrev pub NotLower : LockRecord → LockRecord → Type 0
NotLower older newer = newer.task ≤ older.task

-- what the standings and the lock stack keep, whatever the ceilings, and whatever was planned
pub record Sound (ceil : LockRecord → ℕ) (Planned : LockRecord → Type 0) (standing : ℕ → Standing) (locks : List LockRecord) : Type 0 where
  -- only ready tasks hold locks
  pub holder_ready : (r : LockRecord) → ContainsAt locks r → standing r.task ≡ Ready
  -- every lock was planned
  pub planned : (r : LockRecord) → ContainsAt locks r → Planned r
  -- the ceiling of a lock is past the number of every higher task that holds one
  pub clear : (p q : LockRecord) → ContainsAt locks p → ContainsAt locks q → p.task < q.task → p.task < ceil q
  -- the stack is in order of priority
  pub by_priority : Pairs NotLower locks
  -- a task waits for one that blocks it
  pub why : (w h : ℕ) → standing w ≡ Waiting h → Blocker ceil locks w h

-- the kinds of change that calls make to standings and locks
pub data Move (ceil : LockRecord → ℕ) (Planned : LockRecord → Type 0) (before after : ℕ → Standing) (locks : List LockRecord) : List LockRecord → Type 0 where
  nothing : ((k : ℕ) → after k ≡ before k) → Move ceil Planned before after locks locks
  -- a resting task becomes ready
  arrive : (i : ℕ) → before i ≡ Resting → after i ≡ Ready → ((k : ℕ) → (k ≡ i → ⊥) → after k ≡ before k) → Move ceil Planned before after locks locks
  -- the running task is blocked by b, and waits for its holder
  wait : (j : ℕ) (b : LockRecord) → Runs before j → ContainsAt locks b → (b.task ≡ j → ⊥) → ceil b ≤ j → after j ≡ Waiting b.task → ((k : ℕ) → (k ≡ j → ⊥) → after k ≡ before k) → Move ceil Planned before after locks locks
  -- the running task gets the lock r, which no lock of another task blocks
  grant : (r : LockRecord) → Runs before r.task → Planned r → ((p : LockRecord) → ContainsAt locks p → (p.task ≡ r.task → ⊥) → r.task < ceil p) → ((k : ℕ) → after k ≡ before k) → Move ceil Planned before after locks (locks ++ r ∷ [])
  -- the running task rests, its locks leave, and those that wait for it become ready
  end : (j : ℕ) → Runs before j → after j ≡ Resting → ((k : ℕ) → before k ≡ Waiting j → after k ≡ Ready) → ((k : ℕ) → (k ≡ j → ⊥) → (before k ≡ Waiting j → ⊥) → after k ≡ before k) → Move ceil Planned before after locks (filter (λ r. not (own_lock j r)) locks)

module _ {ceil : LockRecord → ℕ} {Planned : LockRecord → Type 0} {standing : ℕ → Standing} {locks : List LockRecord} (sound : Sound ceil Planned standing locks) where
  -- the task that another waits for is ready
  pub awaited_ready : (w h : ℕ) → standing w ≡ Waiting h → standing h ≡ Ready
  awaited_ready w h e = let b = sound.why w h e in subst (λ k. standing k ≡ Ready) b.own (sound.holder_ready b.lock b.held)

  -- a lower task runs while i is open only if it blocks i
  pub lower_runs : (j i : ℕ) → Runs standing j → is_open (standing i) ≡ true → i < j → Blocker ceil locks i j
  lower_runs j i run op l = from (standing i) refl op
    where
      blocked : (k : ℕ) × (k ≤ i) × (standing k ≡ Waiting j) → Blocker ceil locks i j
      blocked (k, small, w) = let b = sound.why k j w in record { lower = l; lock = b.lock; held = b.held; own = b.own; reaches = omega (arith, b.reaches) }

      from : (s : Standing) → standing i ≡ s → is_open s ≡ true → Blocker ceil locks i j
      from Resting e o = absurd (false≢true o)
      from Ready e o = blocked (run.before i i e (inl refl) l)
      from (Waiting g) e o = blocked (run.before i g (awaited_ready i g e) (inr e) l)

  -- a running task is no lower than any holder
  pub runs_highest : (j : ℕ) (r : LockRecord) → Runs standing j → ContainsAt locks r → j ≤ r.task
  runs_highest j r run held = elim (cases_lt r.task j) [
    | inl l ↦ (let b = lower_runs j r.task run (ap is_open (sound.holder_ready r held)) l in
        let lt : r.task < b.lock.task = rw b.own l in
        let c = sound.clear r b.lock held b.held lt in
        absurd (omega (arith, b.reaches)))
    | inr le ↦ le
  ]

  -- the holder of a lock that blocks the running task is lower
  pub blocked_by_lower : (j : ℕ) (b : LockRecord) → Runs standing j → ContainsAt locks b → (b.task ≡ j → ⊥) → ceil b ≤ j → Blocker ceil locks j b.task
  blocked_by_lower j b run held other le = let m = runs_highest j b run held in record { lower = omega arith; lock = b; held = held; own = refl; reaches = le }

  -- and a blocked running task holds nothing
  pub blocked_holds_nothing : (j : ℕ) (b c : LockRecord) → Runs standing j → ContainsAt locks b → (b.task ≡ j → ⊥) → ceil b ≤ j → ContainsAt locks c → c.task ≡ j → ⊥
  blocked_holds_nothing j b c run held other le mine own =
      let m = runs_highest j b run held in
      let lt : c.task < b.task = omega arith in
      let d = sound.clear c b mine held lt in
      omega arith

  -- all that block a task are one task
  pub one_blocker : (i g h : ℕ) → Blocker ceil locks i g → Blocker ceil locks i h → g ≡ h
  one_blocker i g h b c = elim (cases_order g h) [
    | inl e ↦ e
    | inr o ↦ elim o [
      | inl l ↦ (let lt : b.lock.task < c.lock.task = rw (b.own, c.own) l in let d = sound.clear b.lock c.lock b.held c.held lt in absurd (omega (arith, b.own, b.lower, c.reaches)))
      | inr l ↦ (let lt : c.lock.task < b.lock.task = rw (b.own, c.own) l in let d = sound.clear c.lock b.lock c.held b.held lt in absurd (omega (arith, c.own, c.lower, b.reaches)))
    ]
  ]

-- a lock that stays is of another task
pub stays_other : (j : ℕ) (locks : List LockRecord) (r : LockRecord) → ContainsAt (filter (λ x. not (own_lock j x)) locks) r → ContainsAt locks r × (r.task ≡ j → ⊥)
stays_other j locks r i = let k = has_kept (λ x. not (own_lock j x)) locks r i in (k.0, eqb-false r.task j (not-true (own_lock j r) k.1))

-- and the locks of other tasks stay
pub other_stays : (j : ℕ) (locks : List LockRecord) (r : LockRecord) → ContainsAt locks r → (r.task ≡ j → ⊥) → ContainsAt (filter (λ x. not (own_lock j x)) locks) r
other_stays j locks r i n = kept_has (λ x. not (own_lock j x)) locks r i (not_from_false (own_lock j r) (ne_eqb r.task j n))

-- equal locks are of one task
same_task : {p q : LockRecord} → p ≡ q → p.task ≡ q.task
same_task e = ap (λ (r : LockRecord). r.task) e

-- ---- every kind of change keeps the invariant

module _ {ceil : LockRecord → ℕ} {Planned : LockRecord → Type 0} {before : ℕ → Standing} {locks : List LockRecord} (sound : Sound ceil Planned before locks) where
  -- a grant
  sound_grant : (r : LockRecord) → Runs before r.task → Planned r → ((p : LockRecord) → ContainsAt locks p → (p.task ≡ r.task → ⊥) → r.task < ceil p) → Sound ceil Planned before (locks ++ r ∷ [])
  sound_grant r run plan free = record {
    holder_ready = λ p i. elim (has_push_cases locks r p i) [ inl h ↦ sound.holder_ready p h | inr e ↦ rw (← e) run.ready ];
    planned = λ p i. elim (has_push_cases locks r p i) [ inl h ↦ sound.planned p h | inr e ↦ subst Planned e plan ];
    clear = λ p q i k l. elim (has_push_cases locks r p i) [
      | inl hp ↦ elim (has_push_cases locks r q k) [
        | inl hq ↦ sound.clear p q hp hq l
        | inr e ↦ (let m = runs_highest sound r.task p run hp in absurd (omega (arith, same_task e)))
      ]
      | inr e ↦ elim (has_push_cases locks r q k) [
        | inl hq ↦ (let f = free q hq (omega (arith, same_task e)) in omega (arith, same_task e))
        | inr d ↦ absurd (omega (arith, same_task e, same_task d))
      ]
    ];
    by_priority = pairs_push NotLower locks r sound.by_priority (λ p h. runs_highest sound r.task p run h);
    why = λ w h e. let b = sound.why w h e in record { lower = b.lower; lock = b.lock; held = has_append_left locks (r ∷ []) b.lock b.held; own = b.own; reaches = b.reaches };
  }

module _ {ceil : LockRecord → ℕ} {Planned : LockRecord → Type 0} {before after : ℕ → Standing} {locks : List LockRecord} (sound : Sound ceil Planned before locks) where
  -- no change, or one of counts and cells
  sound_same : ((k : ℕ) → after k ≡ before k) → Sound ceil Planned after locks
  sound_same same = record {
    holder_ready = λ r i. same r.task ∙ sound.holder_ready r i;
    planned = sound.planned;
    clear = sound.clear;
    by_priority = sound.by_priority;
    why = λ w h e. sound.why w h (sym (same w) ∙ e);
  }

  -- an arrival
  sound_arrive : (i : ℕ) → before i ≡ Resting → after i ≡ Ready → ((k : ℕ) → (k ≡ i → ⊥) → after k ≡ before k) → Sound ceil Planned after locks
  sound_arrive i rest now others = record {
    holder_ready = λ r h. elim (cases_eq r.task i) [ inl e ↦ rw e now | inr n ↦ others r.task n ∙ sound.holder_ready r h ];
    planned = sound.planned;
    clear = sound.clear;
    by_priority = sound.by_priority;
    why = λ w h e. elim (cases_eq w i) [
      | inl same ↦ absurd (ready_not_wait h (sym now ∙ (ap after (sym same) ∙ e)))
      | inr n ↦ sound.why w h (sym (others w n) ∙ e)
    ];
  }

  -- a wait
  sound_wait : (j : ℕ) (b : LockRecord) → Runs before j → ContainsAt locks b → (b.task ≡ j → ⊥) → ceil b ≤ j → after j ≡ Waiting b.task → ((k : ℕ) → (k ≡ j → ⊥) → after k ≡ before k) → Sound ceil Planned after locks
  sound_wait j b run held other le now others = record {
    holder_ready = λ r h. elim (cases_eq r.task j) [
      | inl e ↦ absurd (blocked_holds_nothing sound j b r run held other le h e)
      | inr n ↦ others r.task n ∙ sound.holder_ready r h
    ];
    planned = sound.planned;
    clear = sound.clear;
    by_priority = sound.by_priority;
    why = λ w h e. elim (cases_eq w j) [
      | inl same ↦ (let to : Waiting b.task ≡ Waiting h = sym now ∙ (ap after (sym same) ∙ e) in
          let who : b.task ≡ h = cc in
          rw (same, ← who) (blocked_by_lower sound j b run held other le))
      | inr n ↦ sound.why w h (sym (others w n) ∙ e)
    ];
  }

  -- an end
  sound_end : (j : ℕ) → Runs before j → after j ≡ Resting → ((k : ℕ) → before k ≡ Waiting j → after k ≡ Ready) → ((k : ℕ) → (k ≡ j → ⊥) → (before k ≡ Waiting j → ⊥) → after k ≡ before k) → Sound ceil Planned after (filter (λ r. not (own_lock j r)) locks)
  sound_end j run now woken others = record {
    holder_ready = λ r i. let k = stays_other j locks r i in let was = sound.holder_ready r k.0 in others r.task k.1 (λ e. ready_not_wait j (sym was ∙ e)) ∙ was;
    planned = λ r i. sound.planned r (stays_other j locks r i).0;
    clear = λ p q i k. sound.clear p q (stays_other j locks p i).0 (stays_other j locks q k).0;
    by_priority = pairs_kept NotLower (λ r. not (own_lock j r)) locks sound.by_priority;
    why = λ w h e. elim (cases_eq w j) [
      | inl same ↦ absurd (rest_not_wait h (sym now ∙ (ap after (sym same) ∙ e)))
      | inr n ↦ elim (waits_cases j (before w)) [
        | inl was ↦ absurd (ready_not_wait h (sym (woken w was) ∙ e))
        | inr not-j ↦ (let then : before w ≡ Waiting h = sym (others w n not-j) ∙ e in
            let b = sound.why w h then in
            record { lower = b.lower; lock = b.lock; held = other_stays j locks b.lock b.held (λ q. not-j (then ∙ ap Waiting (sym b.own ∙ q))); own = b.own; reaches = b.reaches })
      ]
    ];
  }

-- every kind
pub sound_kept : {ceil : LockRecord → ℕ} {Planned : LockRecord → Type 0} {before after : ℕ → Standing} {locks locks' : List LockRecord} → Sound ceil Planned before locks → Move ceil Planned before after locks locks' → Sound ceil Planned after locks'
sound_kept sound (Move.nothing same) = sound_same sound same
sound_kept sound (Move.arrive i rest now others) = sound_arrive sound i rest now others
sound_kept sound (Move.wait j b run held other le now others) = sound_wait sound j b run held other le now others
sound_kept sound (Move.grant r run plan free same) = sound_same (sound_grant sound r run plan free) same
sound_kept sound (Move.end j run now woken others) = sound_end sound j run now woken others
