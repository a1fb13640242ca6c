-- What each outcome does to the tasks' records, and which kind of change of standings and locks it is.
use Rattle.std.proofs.Common.{◌≡◌, ℕ, zero, suc, ◌+◌, ◌<◌, ◌≤◌, false, cond, ◌&&◌, eqb, ltb, List, [], ◌∷◌, map, length, Some, sym, refl, ap, ◌∙◌, inl, inr, arith}
use Rattle.std.proofs.lemmas.List.{get_or-set_same, get_or-set_other, get_or_past, length-set, length-map}
use Rattle.std.proofs.lemmas.Bool.{cond_both, cond-true, cond-false, cases_lt, ne_eqb, and_right}
use Rattle.protocol.specs.declared.words.Standing.TheVariants.{Resting, Ready, Waiting}
use Rattle.protocol.specs.declared.words.Task.{Task}
use Rattle.protocol.specs.declared.words.LockRecord.{LockRecord}
use Rattle.protocol.specs.Tasks.{resting, task_at, standing_at, is_open, waits_for, running}
use Rattle.protocol.specs.Machine.{Setup, State, change, stand, arrived, wake, use_tick, lose_tick, ticked, tick_from, lock_ceiling}
use Rattle.protocol.specs.Lines.{Event}
use Rattle.protocol.proofs.Places.{runs, rest_not_ready, ready_not_wait, waits_true, waits_is}
use Rattle.protocol.proofs.Outcomes.{Kind, Planned, after_end}
use Rattle.protocol.proofs.Invariant.{Move}

-- ---- the tasks' records

-- a change of one task's record: it, and the others
pub changed_same : (f : Task → Task) (tasks : List Task) (k : ℕ) → k < length tasks → task_at (change f tasks k) k ≡ f (task_at tasks k)
changed_same f tasks k l = get_or-set_same tasks k (f (task_at tasks k)) resting l

-- the others stay as they were
pub changed_other : (f : Task → Task) (tasks : List Task) (k m : ℕ) → (m ≡ k → ⊥) → task_at (change f tasks k) m ≡ task_at tasks m
changed_other f tasks k m n = get_or-set_other tasks k m (f (task_at tasks k)) resting n

-- those that wait for h become ready
pub woken_at : (h : ℕ) (tasks : List Task) (k : ℕ) → task_at (map (wake h) tasks) k ≡ wake h (task_at tasks k)
woken_at h [] k = refl
woken_at h (t ∷ ts) zero = refl
woken_at h (t ∷ ts) (suc k) = woken_at h ts k

-- what a tick of task j makes of each
pub ticked_at : (j k : ℕ) (tasks : List Task) (n m : ℕ) → m ≡ k + n → (m ≡ j → n < length tasks) → task_at (tick_from j k tasks) n ≡ ticked j m (task_at tasks n)
ticked_at j k [] n m e there = sym (cond-false (eqb m j) _ _ (ne_eqb m j (λ q. let l = there q in omega arith)) ∙ cond-false (ltb m j && false) _ _ (and_right (ltb m j) false refl))
ticked_at j k (t ∷ ts) zero m e there = let same : m ≡ k = omega arith in rw same refl
ticked_at j k (t ∷ ts) (suc n) m e there = ticked_at j (suc k) ts n m (omega arith) (λ q. let l = there q in omega arith)

-- a ready task is there
pub ready_there : (tasks : List Task) (k : ℕ) → standing_at tasks k ≡ Ready → k < length tasks
ready_there tasks k r = elim (cases_lt k (length tasks)) [
  | inl l ↦ l
  | inr past ↦ absurd (rest_not_ready (sym (ap (λ (t : Task). t.standing) (get_or_past tasks k resting past)) ∙ r))
]

-- a tick changes no number of tasks
pub length_ticked : (j k : ℕ) (tasks : List Task) → length (tick_from j k tasks) ≡ length tasks
length_ticked j k [] = refl
length_ticked j k (t ∷ ts) = ap suc (length_ticked j (suc k) ts)

-- a tick changes no standing
pub ticked_standing : (j k : ℕ) (t : Task) → (ticked j k t).standing ≡ t.standing
ticked_standing j k t = cond_both (eqb k j) (use_tick t) (cond (ltb k j && is_open t.standing) (lose_tick j t) t) (λ x. x.standing ≡ t.standing) (λ _. refl)
    (λ _. cond_both (ltb k j && is_open t.standing) (lose_tick j t) t (λ x. x.standing ≡ t.standing) (λ _. refl) (λ _. refl))

-- so all stand as they stood
pub tick_standing : (tasks : List Task) (j k : ℕ) → running tasks ≡ Some j → standing_at (tick_from j 0 tasks) k ≡ standing_at tasks k
tick_standing tasks j k run = ap (λ (t : Task). t.standing) (ticked_at j 0 tasks k k (omega arith) (λ q. rw q (ready_there tasks j (runs tasks j run).ready))) ∙ ticked_standing j k (task_at tasks k)

-- ---- the end of an instance

-- one that does not wait for h stays as it was
wake_other : (h : ℕ) (t : Task) → (t.standing ≡ Waiting h → ⊥) → wake h t ≡ t
wake_other h t other = cond_both (waits_for h t.standing) (stand Ready t) t (λ x. x ≡ t) (λ w. absurd (other (waits_is h t.standing w))) (λ _. refl)

-- one that waits for h becomes ready
wake_waiter : (h : ℕ) (t : Task) → t.standing ≡ Waiting h → wake h t ≡ stand Ready t
wake_waiter h t w = cond-true (waits_for h t.standing) (stand Ready t) t (waits_true h t.standing w)

module _ (tasks : List Task) (j : ℕ) (ready : standing_at tasks j ≡ Ready) where
  -- the task that ends rests, its counts kept
  pub ended_own : task_at (after_end j tasks) j ≡ stand Resting (task_at tasks j)
  ended_own =
      let there : j < length (map (wake j) tasks) = rw length-map (ready_there tasks j ready) in
      changed_same (stand Resting) (map (wake j) tasks) j there ∙ ap (stand Resting) (woken_at j tasks j ∙ wake_other j (task_at tasks j) (λ w. ready_not_wait j (sym ready ∙ w)))

  -- one that waited for it is ready, its counts kept
  pub ended_waiter : (k : ℕ) → standing_at tasks k ≡ Waiting j → task_at (after_end j tasks) k ≡ stand Ready (task_at tasks k)
  ended_waiter k w = changed_other (stand Resting) (map (wake j) tasks) j k (λ e. ready_not_wait j (sym ready ∙ (ap (standing_at tasks) (sym e) ∙ w))) ∙ (woken_at j tasks k ∙ wake_waiter j (task_at tasks k) w)

  -- the others stay as they were
  pub ended_other : (k : ℕ) → (k ≡ j → ⊥) → (standing_at tasks k ≡ Waiting j → ⊥) → task_at (after_end j tasks) k ≡ task_at tasks k
  ended_other k n other = changed_other (stand Resting) (map (wake j) tasks) j k n ∙ (woken_at j tasks k ∙ wake_other j (task_at tasks k) other)

-- ---- the kinds of change

module _ (setup : Setup) (s : State) where
  -- no call changes how many tasks there are
  pub length_kept : {e : Event} {tasks : List Task} {locks : List LockRecord} → Kind setup s e tasks locks → length tasks ≡ length s.tasks
  length_kept (Kind.quiet _ q no_end) = refl
  length_kept (Kind.arrives task there rest) = length-set s.tasks task _
  length_kept (Kind.waits task object mode b run held t) = length-set s.tasks task _
  length_kept (Kind.grants _ r q no_end run plan free) = refl
  length_kept (Kind.finishes _ j q end account run) = length-set (map (wake j) s.tasks) j _ ∙ length-map s.tasks (wake j)
  length_kept (Kind.runs j run less) = length_ticked j 0 s.tasks

  -- every call makes one of the changes that the invariant knows
  pub move_of : {e : Event} {tasks : List Task} {locks : List LockRecord} → length setup.plan.rows ≤ length s.tasks → Kind setup s e tasks locks → Move (lock_ceiling setup) (Planned setup) (standing_at s.tasks) (standing_at tasks) s.locks locks
  move_of sized (Kind.quiet _ q no_end) = Move.nothing (λ k. refl)
  move_of sized (Kind.arrives task there rest) = Move.arrive task rest
      (ap (λ (t : Task). t.standing) (changed_same (λ _. arrived) s.tasks task (omega arith)))
      (λ k n. ap (λ (t : Task). t.standing) (changed_other (λ _. arrived) s.tasks task k n))
  move_of sized (Kind.waits task object mode b run held t) =
      let r = runs s.tasks task run in
      Move.wait task b r held t.other t.reaches
      (ap (λ (t : Task). t.standing) (changed_same (stand (Waiting b.task)) s.tasks task (ready_there s.tasks task r.ready)))
      (λ k n. ap (λ (t : Task). t.standing) (changed_other (stand (Waiting b.task)) s.tasks task k n))
  move_of sized (Kind.grants _ r q no_end run plan free) = Move.grant r (runs s.tasks r.task run) plan free (λ k. refl)
  move_of sized (Kind.finishes _ j q ends account run) =
      let r = runs s.tasks j run in
      Move.end j r (ap (λ (t : Task). t.standing) (ended_own s.tasks j r.ready))
      (λ k w. ap (λ (t : Task). t.standing) (ended_waiter s.tasks j r.ready k w))
      (λ k n other. ap (λ (t : Task). t.standing) (ended_other s.tasks j r.ready k n other))
  move_of sized (Kind.runs j run less) = Move.nothing (λ k. tick_standing s.tasks j k run)
