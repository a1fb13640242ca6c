-- What a call does to a task's counts, and what the counts of an instance say of its stretch of the line.
use Rattle.std.proofs.Common.{◌≡◌, ℕ, ◌+◌, ◌<◌, ◌≤◌, min, true, false, cond, ◌&&◌, eqb, ltb, ◌⊎◌, List, [], length, ℤ, Some, sym, refl, ap, ◌∙◌, inl, inr, arith}
use Rattle.std.proofs.lemmas.Bool.{cond-true, cond-false, cases_eq, cases_order, cases_Bool, eq-eqb, ne_eqb, lt-ltb, le-ltb, and_from, and_left, and_right, false≢true}
use Rattle.plans.specs.Contents.{Contents, budget_of}
use Rattle.protocol.specs.declared.words.Standing.{Standing}
use Rattle.protocol.specs.declared.words.Standing.TheVariants.{Resting, Ready, Waiting}
use Rattle.protocol.specs.declared.words.Task.{Task}
use Rattle.protocol.specs.declared.words.LockRecord.{LockRecord}
use Rattle.protocol.specs.declared.words.Call.TheVariants.{Tick}
use Rattle.protocol.specs.declared.words.Answer.TheVariants.{Ran}
use Rattle.protocol.specs.Tasks.{task_at, standing_at, is_open, running}
use Rattle.protocol.specs.Machine.{Setup, State, made, names, stand, arrived, use_tick, lose_tick, ticked, tick_from}
use Rattle.protocol.specs.Lines.{Event, Started, Line, none, more, ticks, lower_ticks, runner, is_below}
use Rattle.protocol.proofs.Places.{runs, waits_cases}
use Rattle.protocol.proofs.Outcomes.{Kind, kind, after_end}
use Rattle.protocol.proofs.Moves.{changed_same, changed_other, ticked_at, ready_there, ended_own, ended_waiter, ended_other}
use Rattle.protocol.proofs.Reached.{Kept, kept_line, kept, all_rest}

-- what a member of a line does to the counts of task i, whose record it finds as t and leaves as t'
pub data Counted (budget i : ℕ) (t t' : Task) (e : Event) : Type 0 where
  -- i arrives, and they begin anew
  begun : t.standing ≡ Resting → t' ≡ arrived → Counted budget i t t' e
  -- i runs a tick
  ran : runner e.answer ≡ Some i → t.used < budget → t' ≡ use_tick t → Counted budget i t t' e
  -- a lower task runs a tick while i is open
  lost : (j : ℕ) → runner e.answer ≡ Some j → i < j → t' ≡ lose_tick j t → Counted budget i t t' e
  -- neither
  same : ticks i e ≡ false → (is_open t.standing ≡ true → lower_ticks i e ≡ false) → t'.used ≡ t.used → t'.lost ≡ t.lost → t'.lost_to ≡ t.lost_to → Counted budget i t t' e

-- a change of its standing alone
stood : {budget i : ℕ} {t t' : Task} {e : Event} (x : Standing) → ticks i e ≡ false → (is_open t.standing ≡ true → lower_ticks i e ≡ false) → t' ≡ stand x t → Counted budget i t t' e
stood x no_tick no_lower is = same no_tick no_lower (ap (λ (r : Task). r.used) is) (ap (λ (r : Task). r.lost) is) (ap (λ (r : Task). r.lost_to) is)

-- no change
stayed : {budget i : ℕ} {t t' : Task} {e : Event} → ticks i e ≡ false → (is_open t.standing ≡ true → lower_ticks i e ≡ false) → t' ≡ t → Counted budget i t t' e
stayed {t} no_tick no_lower is = stood t.standing no_tick no_lower is

-- the end of an instance
counted_end : {budget i : ℕ} {e : Event} (tasks : List Task) (j : ℕ) → running tasks ≡ Some j → ticks i e ≡ false → lower_ticks i e ≡ false → Counted budget i (task_at tasks i) (task_at (after_end j tasks) i) e
counted_end {i} tasks j run no_tick no_lower =
    let ready = (runs tasks j run).ready in
    elim (cases_eq i j) [
      | inl own ↦ stood Resting no_tick (λ _. no_lower) (rw own (ended_own tasks j ready))
      | inr n ↦ elim (waits_cases j (standing_at tasks i)) [
        | inl w ↦ stood Ready no_tick (λ _. no_lower) (ended_waiter tasks j ready i w)
        | inr other ↦ stayed no_tick (λ _. no_lower) (ended_other tasks j ready i n other)
      ]
    ]

-- a tick of a task j leaves the record of another one that is not both above j and open
unticked : (j i : ℕ) (t : Task) → (i ≡ j → ⊥) → (ltb i j && is_open t.standing) ≡ false → ticked j i t ≡ t
unticked j i t n f = cond-false (eqb i j) (use_tick t) _ (ne_eqb i j n) ∙ cond-false (ltb i j && is_open t.standing) (lose_tick j t) t f

-- a tick
counted_tick : (plan : Contents) (i : ℕ) (tasks : List Task) (j : ℕ) → running tasks ≡ Some j → (task_at tasks j).used < budget_of plan j → Counted (budget_of plan i) i (task_at tasks i) (task_at (tick_from j 0 tasks) i) (record { call = Tick; answer = Ran j })
counted_tick plan i tasks j run less = from (cases_order i j) (cases_Bool (is_open (standing_at tasks i)))
  where
    t : Task
    t = task_at tasks i

    e : Event
    e = record { call = Tick; answer = Ran j }

    at : task_at (tick_from j 0 tasks) i ≡ ticked j i t
    at = ticked_at j 0 tasks i i (omega arith) (λ q. rw q (ready_there tasks j (runs tasks j run).ready))

    from : (i ≡ j) ⊎ ((i < j) ⊎ (j < i)) → (is_open t.standing ≡ true) ⊎ (is_open t.standing ≡ false) → Counted (budget_of plan i) i t (task_at (tick_from j 0 tasks) i) e
    from (inl own) op = ran (ap Some (sym own)) (rw own less) (at ∙ cond-true (eqb i j) (use_tick t) _ (eq-eqb i j own))
    from (inr (inl l)) (inl op) = lost j refl l (at ∙ (cond-false (eqb i j) (use_tick t) _ (ne_eqb i j (omega arith)) ∙ cond-true (ltb i j && is_open t.standing) (lose_tick j t) t (and_from (ltb i j) (is_open t.standing) (lt-ltb i j l) op)))
    from (inr (inl l)) (inr rest) = stayed (ne_eqb j i (omega arith)) (λ op. absurd (false≢true (sym rest ∙ op))) (at ∙ unticked j i t (omega arith) (and_right (ltb i j) (is_open t.standing) rest))
    from (inr (inr l)) op = stayed (ne_eqb j i (omega arith)) (λ _. le-ltb i j (omega arith)) (at ∙ unticked j i t (omega arith) (and_left (ltb i j) (is_open t.standing) (le-ltb i j (omega arith))))

-- so it is with every call
pub counted : (setup : Setup) (s : State) (i : ℕ) {e : Event} {tasks : List Task} {locks : List LockRecord} → length setup.plan.rows ≤ length s.tasks → Kind setup s e tasks locks → Counted (budget_of setup.plan i) i (task_at s.tasks i) (task_at tasks i) e
counted setup s i sized (Kind.quiet _ q no_end) = stayed (ap (names i) q.no_tick) (λ _. ap (is_below i) q.no_tick) refl
counted setup s i sized (Kind.arrives task there rest) = elim (cases_eq i task) [
  | inl own ↦ begun (rw own rest) (rw own (changed_same (λ _. arrived) s.tasks task (omega arith)))
  | inr n ↦ stayed refl (λ _. refl) (changed_other (λ _. arrived) s.tasks task i n)
]
counted setup s i sized (Kind.waits task object mode b run held t) = elim (cases_eq i task) [
  | inl me ↦ stood (Waiting b.task) refl (λ _. refl) (rw me (changed_same (stand (Waiting b.task)) s.tasks task (ready_there s.tasks task (runs s.tasks task run).ready)))
  | inr n ↦ stayed refl (λ _. refl) (changed_other (stand (Waiting b.task)) s.tasks task i n)
]
counted setup s i sized (Kind.grants _ r q no_end run plan free) = stayed (ap (names i) q.no_tick) (λ _. ap (is_below i) q.no_tick) refl
counted setup s i sized (Kind.finishes _ j q end account run) = counted_end s.tasks j run (ap (names i) q.no_tick) (ap (is_below i) q.no_tick)
counted setup s i sized (Kind.runs j run less) = counted_tick setup.plan i s.tasks j run less

-- of an open task, the ticks that it ran are counted
pub used_after : {budget i : ℕ} {t t' : Task} {e : Event} → Counted budget i t t' e → is_open t.standing ≡ true → t'.used ≡ t.used + cond (ticks i e) 1 0
used_after {i} {e} (begun rest is) op = absurd (false≢true (ap is_open (sym rest) ∙ op))
used_after {i} {e} (ran tick less is) op = rw (tick, cond-true {A = ℕ} (eqb i i) 1 0 (eq-eqb i i refl)) (omega (arith, ap (λ (r : Task). r.used) is))
used_after {i} {e} (lost j tick l is) op = rw (tick, cond-false {A = ℕ} (eqb j i) 1 0 (ne_eqb j i (omega arith))) (omega (arith, ap (λ (r : Task). r.used) is))
used_after {i} {e} (same no_tick no_lower used_is lost_is to_is) op = rw (cond-false {A = ℕ} (ticks i e) 1 0 no_tick) (omega arith)

-- and so are those that lower tasks ran meanwhile
pub lost_after : {budget i : ℕ} {t t' : Task} {e : Event} → Counted budget i t t' e → is_open t.standing ≡ true → t'.lost ≡ cond (lower_ticks i e) (min (t.lost + 1) 65535) t.lost
lost_after {i} {t} {e} (begun rest is) op = absurd (false≢true (ap is_open (sym rest) ∙ op))
lost_after {i} {t} {e} (ran tick less is) op = ap (λ (r : Task). r.lost) is ∙ sym (cond-false (lower_ticks i e) (min (t.lost + 1) 65535) t.lost (ap (is_below i) tick ∙ le-ltb i i (omega arith)))
lost_after {i} {t} {e} (lost j tick l is) op = ap (λ (r : Task). r.lost) is ∙ sym (cond-true (lower_ticks i e) (min (t.lost + 1) 65535) t.lost (ap (is_below i) tick ∙ lt-ltb i j l))
lost_after {i} {t} {e} (same no_tick no_lower used_is lost_is to_is) op = lost_is ∙ sym (cond-false (lower_ticks i e) (min (t.lost + 1) 65535) t.lost (no_lower op))

-- with whom they were lost to
pub lost_to_after : {budget i : ℕ} {t t' : Task} {e : Event} → Counted budget i t t' e → is_open t.standing ≡ true → t'.lost_to ≡ cond (lower_ticks i e) (runner e.answer) t.lost_to
lost_to_after {i} {t} {e} (begun rest is) op = absurd (false≢true (ap is_open (sym rest) ∙ op))
lost_to_after {i} {t} {e} (ran tick less is) op = ap (λ (r : Task). r.lost_to) is ∙ sym (cond-false (lower_ticks i e) (runner e.answer) t.lost_to (ap (is_below i) tick ∙ le-ltb i i (omega arith)))
lost_to_after {i} {t} {e} (lost j tick l is) op = ap (λ (r : Task). r.lost_to) is ∙ (sym tick ∙ sym (cond-true (lower_ticks i e) (runner e.answer) t.lost_to (ap (is_below i) tick ∙ lt-ltb i j l)))
lost_to_after {i} {t} {e} (same no_tick no_lower used_is lost_is to_is) op = to_is ∙ sym (cond-false (lower_ticks i e) (runner e.answer) t.lost_to (no_lower op))

-- a call lets no instance run past its budget
in_budget_step : {budget i : ℕ} {t t' : Task} {e : Event} → Counted budget i t t' e → t.used ≤ budget → t'.used ≤ budget
in_budget_step (begun rest is) h = omega (arith, ap (λ (r : Task). r.used) is)
in_budget_step (ran tick less is) h = omega (arith, ap (λ (r : Task). r.used) is)
in_budget_step (lost j tick l is) h = omega (arith, ap (λ (r : Task). r.used) is)
in_budget_step (same no_tick no_lower used_is lost_is to_is) h = omega arith

-- nor does a line
pub in_budget_line : (setup : Setup) (start s : State) (line : List Event) → length setup.plan.rows ≤ 16 → Kept setup start → ((i : ℕ) → (task_at start.tasks i).used ≤ budget_of setup.plan i) → Line setup start line s → (i : ℕ) → (task_at s.tasks i).used ≤ budget_of setup.plan i
in_budget_line setup start s line few k at_start none i = at_start i
in_budget_line setup start s line few k at_start (more {line = l} {s = t} before c) i =
    let now = kept_line setup start t l few k before in
    in_budget_step (counted setup t i (rw now.sized few) (kind setup t c)) (in_budget_line setup start t l few k at_start before i)

-- no instance runs more ticks than its budget
pub in_budget : (setup : Setup) (cells : List ℤ) (start s : State) (line : List Event) → Started setup cells start → Line setup start line s → (i : ℕ) → (task_at s.tasks i).used ≤ budget_of setup.plan i
in_budget setup cells start s line made line_to = in_budget_line setup start s line made.limits.few_tasks (kept setup cells start start [] made none) (λ i. omega (arith, ap (λ (t : State). (task_at t.tasks i).used) made.left, ap (λ (t : Task). t.used) (all_rest i))) line_to
