-- How long lower tasks can hold a task up: one wait, one lower instance, the bound.
use Rattle.std.proofs.Common.{◌≡◌, ℕ, ◌<◌, ◌≤◌, max, true, eqb, ltb, List, [], ◌∷◌, Some, None, Option, sym, refl, ap, ◌∙◌, subst, inl, inr, arith}
use Rattle.std.specs.List.{ContainsAt}
use Rattle.std.proofs.ByRecursion.{has_push_cases}
use Rattle.std.proofs.lemmas.Bool.{cond_both, cond-true, ltb-true, lt-ltb, le-leb, eqb-true, and_parts, and_from, false≢true, both_ways}
use Rattle.rules.specs.Meaning.{Meaning}
use Rattle.plans.specs.Contents.{Contents, budget_of}
use Rattle.plans.specs.Ceilings.{ceiling, delays, bound_over, bound}
use Rattle.plans.specs.declared.parts.Use.{Use}
use Rattle.protocol.specs.declared.words.Standing.{Standing}
use Rattle.protocol.specs.declared.words.Standing.TheVariants.{Waiting}
use Rattle.protocol.specs.declared.words.Task.{Task}
use Rattle.protocol.specs.declared.words.LockRecord.{LockRecord}
use Rattle.protocol.specs.Tasks.{task_at, standing_at, running}
use Rattle.protocol.specs.Machine.{Setup, State, lock_ceiling, change, stand}
use Rattle.protocol.specs.Lines.{Event, ends, told_to_wait, is_below, runner}
use Rattle.protocol.proofs.Lists.{has_none, has_cases}
use Rattle.protocol.proofs.Places.{Runs, runs, rest_not_wait, ready_not_wait}
use Rattle.protocol.proofs.Invariant.{Sound, Blocker, Move, lower_runs, one_blocker, stays_other}
use Rattle.protocol.proofs.Outcomes.{Kind, Blocks}
use Rattle.protocol.proofs.Moves.{changed_same, ready_there}
use Rattle.protocol.proofs.Reached.{Kept}
use Rattle.protocol.proofs.Stretches.{Busy}

-- ---- blockers over one change

-- what blocks a task blocks every lower one up to the holder
blocker_up : {ceil : LockRecord → ℕ} {locks : List LockRecord} {k i h : ℕ} → k ≤ i → i < h → Blocker ceil locks k h → Blocker ceil locks i h
blocker_up le l b = record { lower = l; lock = b.lock; held = b.held; own = b.own; reaches = omega (arith, b.reaches) }

module _ {ceil : LockRecord → ℕ} {Planned : LockRecord → Type 0} {before : ℕ → Standing} {locks : List LockRecord} (sound : Sound ceil Planned before locks) where
  -- while some task up to i is open, a lower task that runs blocks i
  pub lower_blocks : (j i : ℕ) → Runs before j → Busy before i → i < j → Blocker ceil locks i j
  lower_blocks j i run (k, le, op) l = blocker_up le l (lower_runs sound j k run op (omega arith))

  -- and nobody begins to block it
  pub blocker_before : {after : ℕ → Standing} {locks' : List LockRecord} → Move ceil Planned before after locks locks' → (i h : ℕ) → Busy before i → Blocker ceil locks' i h → Blocker ceil locks i h
  blocker_before (Move.nothing same) i h busy b = b
  blocker_before (Move.arrive k rest now others) i h busy b = b
  blocker_before (Move.wait j c run held other le now others) i h busy b = b
  blocker_before (Move.grant r run plan free same) i h busy b = elim (has_push_cases locks r b.lock b.held) [
    | inl old ↦ record { lower = b.lower; lock = b.lock; held = old; own = b.own; reaches = b.reaches }
    | inr new ↦ (let own : r.task ≡ h = ap (λ (x : LockRecord). x.task) new ∙ b.own in
        lower_blocks h i (subst (Runs before) own run) busy b.lower)
  ]
  blocker_before (Move.end j run now woken others) i h busy b = record { lower = b.lower; lock = b.lock; held = (stays_other j locks b.lock b.held).0; own = b.own; reaches = b.reaches }

  -- a waiting task that is still blocked waits on
  pub still_waits : {after : ℕ → Standing} {locks' : List LockRecord} → Move ceil Planned before after locks locks' → (i g h : ℕ) → before i ≡ Waiting g → Blocker ceil locks' i h → after i ≡ Waiting g
  still_waits (Move.nothing same) i g h w b = same i ∙ w
  still_waits (Move.arrive k rest now others) i g h w b = others i (λ e. rest_not_wait g (sym rest ∙ (ap before (sym e) ∙ w))) ∙ w
  still_waits (Move.wait j c run held other le now others) i g h w b = others i (λ e. ready_not_wait g (sym run.ready ∙ (ap before (sym e) ∙ w))) ∙ w
  still_waits (Move.grant r run plan free same) i g h w b = same i ∙ w
  still_waits (Move.end j run now woken others) i g h w b = others i (λ e. ready_not_wait g (sym run.ready ∙ (ap before (sym e) ∙ w))) other ∙ w
    where
      stays : ContainsAt locks b.lock × (b.lock.task ≡ j → ⊥)
      stays = stays_other j locks b.lock b.held

      other : before i ≡ Waiting j → ⊥
      other wj = stays.1 (b.own ∙ one_blocker sound i h j (record { lower = b.lower; lock = b.lock; held = stays.0; own = b.own; reaches = b.reaches }) (sound.why i j wj))

-- ---- what the members of a stretch tell

-- the task that a lower tick is of
pub lower_is : (i : ℕ) (o : Option ℕ) → is_below i o ≡ true → (j : ℕ) × (o ≡ Some j) × (i < j)
lower_is i None t = absurd (false≢true t)
lower_is i (Some j) t = (j, refl, ltb-true i j t)

module _ (setup : Setup) (s : State) where
  -- the task of a tick runs, and its budget is not spent
  pub tick_of_running : {e : Event} {tasks : List Task} {locks : List LockRecord} → Kind setup s e tasks locks → (j : ℕ) → runner e.answer ≡ Some j → (running s.tasks ≡ Some j) × ((task_at s.tasks j).used < budget_of setup.plan j)
  tick_of_running {e} (Kind.quiet _ q no_end) j r = let z : ◌≡◌ {A = ℕ} 0 1 = cc q.no_tick in absurd (omega arith)
  tick_of_running {e} (Kind.arrives task there rest) j r = let z : ◌≡◌ {A = ℕ} 0 1 = cc in absurd (omega arith)
  tick_of_running {e} (Kind.waits task object mode b run held t) j r = let z : ◌≡◌ {A = ℕ} 0 1 = cc in absurd (omega arith)
  tick_of_running {e} (Kind.grants _ lock q no_end run plan free) j r = let z : ◌≡◌ {A = ℕ} 0 1 = cc q.no_tick in absurd (omega arith)
  tick_of_running {e} (Kind.finishes _ k q end account run) j r = let z : ◌≡◌ {A = ℕ} 0 1 = cc q.no_tick in absurd (omega arith)
  tick_of_running {e} (Kind.runs k run less) j r = let own : k ≡ j = cc in (run ∙ ap Some own, subst (λ n. (task_at s.tasks n).used < budget_of setup.plan n) own less)

  -- a task that is told to wait is blocked, and waits
  pub told_is : {e : Event} {tasks : List Task} {locks : List LockRecord} → Kind setup s e tasks locks → (i : ℕ) → told_to_wait i e ≡ true → (b : LockRecord) × (running s.tasks ≡ Some i) × ContainsAt s.locks b × Blocks setup i b × (standing_at tasks i ≡ Waiting b.task)
  told_is {e} (Kind.quiet _ q no_end) i t = absurd (both_ways (told_to_wait i e) (q.no_wait i) t)
  told_is {e} (Kind.arrives task there rest) i t = absurd (false≢true t)
  told_is {e} (Kind.waits task object mode b run held blocked) i t =
      let own : task ≡ i = eqb-true task i (and_parts (eqb task i) true t).0 in
      let now : standing_at (change (stand (Waiting b.task)) s.tasks task) task ≡ Waiting b.task = ap (λ (x : Task). x.standing) (changed_same (stand (Waiting b.task)) s.tasks task (ready_there s.tasks task (runs s.tasks task run).ready)) in
      (b, run ∙ ap Some own, held, subst (λ k. Blocks setup k b) own blocked, subst (λ k. standing_at (change (stand (Waiting b.task)) s.tasks task) k ≡ Waiting b.task) own now)
  told_is {e} (Kind.grants _ lock q no_end run plan free) i t = absurd (both_ways (told_to_wait i e) (q.no_wait i) t)
  told_is {e} (Kind.finishes _ k q end account run) i t = absurd (both_ways (told_to_wait i e) (q.no_wait i) t)
  told_is {e} (Kind.runs k run less) i t = absurd (false≢true t)

  -- one that ends holds nothing after
  pub end_clears : {e : Event} {tasks : List Task} {locks : List LockRecord} → Kind setup s e tasks locks → (h : ℕ) → ends h e ≡ true → (r : LockRecord) → ContainsAt locks r → r.task ≡ h → ⊥
  end_clears {e} (Kind.quiet _ q no_end) h t r i own = both_ways (ends h e) (no_end h) t
  end_clears {e} (Kind.arrives task there rest) h t r i own = false≢true t
  end_clears {e} (Kind.waits task object mode b run held blocked) h t r i own = false≢true t
  end_clears {e} (Kind.grants _ lock q no_end run plan free) h t r i own = both_ways (ends h e) (no_end h) t
  end_clears {e} (Kind.finishes _ k q end account run) h t r i own = (stays_other k s.locks r i).1 (own ∙ sym ((end h).0 t))
  end_clears {e} (Kind.runs k run less) h t r i own = false≢true t

-- ---- the bound

-- the greatest budget is no less than any
bound_covers : (m : Meaning) (plan : Contents) (i : ℕ) (us : List Use) (u : Use) → ContainsAt us u → delays m plan.uses i u ≡ true → budget_of plan u.task ≤ bound_over m plan i us
bound_covers m plan i [] u has d = absurd (has_none u has)
bound_covers m plan i (v ∷ vs) u has d =
    let rest = bound_over m plan i vs in
    elim (has_cases v vs u has) [
      | inl e ↦ rw (cond-true (delays m plan.uses i v) (max (budget_of plan v.task) rest) rest (ap (delays m plan.uses i) e ∙ d)) (let same = ap (λ (x : Use). budget_of plan x.task) e in omega arith)
      | inr later ↦ (let h = bound_covers m plan i vs u later d in
          cond_both (delays m plan.uses i v) (max (budget_of plan v.task) rest) rest (λ x. budget_of plan u.task ≤ x) (λ _. omega arith) (λ _. h))
    ]

-- the budget of a task that blocks i is at most i's bound
pub blocker_bound : (setup : Setup) (s : State) (i h : ℕ) → Kept setup s → Blocker (lock_ceiling setup) s.locks i h → budget_of setup.plan h ≤ bound setup.rule setup.plan i
blocker_bound setup s i h kept b =
    let plan = kept.sound.planned b.lock b.held in
    let u = plan.entry in
    let own : u.task ≡ h = plan.of_task ∙ b.own in
    let reach : ceiling setup.rule setup.plan.uses u.object u.mode ≤ i = rw (plan.of_object, plan.of_mode) b.reaches in
    let d : delays setup.rule setup.plan.uses i u ≡ true = and_from (ltb i u.task) _ (lt-ltb i u.task (rw own b.lower)) (le-leb _ i reach) in
    subst (λ k. budget_of setup.plan k ≤ bound setup.rule setup.plan i) own (bound_covers setup.rule setup.plan i setup.plan.uses u plan.listed d)
