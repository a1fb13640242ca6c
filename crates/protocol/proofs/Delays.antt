-- One wait, one lower instance, the bound: what is kept over every stretch in which some task numbered at most i is open.
use Rattle.std.proofs.Common.{◌≡◌, ℕ, ◌+◌, ◌<◌, ◌≤◌, true, false, cond, ◌⊎◌, List, [], ◌∷◌, ◌++◌, length, Some, sym, refl, ap, ◌∙◌, subst, inl, inr, arith}
use Rattle.std.specs.List.{AllByRecursion}
use Rattle.std.proofs.lemmas.Bool.{cond_both, cond-true, cond-false, cases_Bool, eq-eqb}
use Rattle.plans.specs.Ceilings.{bound}
use Rattle.protocol.specs.declared.words.Standing.TheVariants.{Ready, Waiting}
use Rattle.protocol.specs.declared.words.Call.{Call}
use Rattle.protocol.specs.Tasks.{task_at, standing_at, is_open}
use Rattle.protocol.specs.Machine.{Setup, State, step, lock_ceiling, names}
use Rattle.protocol.specs.Lines.{Event, count, ends, ticks, told_to_wait, lower_ticks, runner}
use Rattle.protocol.specs.Laws.{NoEnd}
use Rattle.protocol.proofs.Lists.{all_parts}
use Rattle.protocol.proofs.Places.{runs, ready_not_wait}
use Rattle.protocol.proofs.Invariant.{Blocker, Move, one_blocker, blocked_by_lower}
use Rattle.protocol.proofs.Outcomes.{Kind, Planned, member, kind}
use Rattle.protocol.proofs.Moves.{move_of}
use Rattle.protocol.proofs.Reached.{Kept, kept_step}
use Rattle.protocol.proofs.Counts.{counted, used_after}
use Rattle.protocol.proofs.Stretches.{Busy, Stretch, here, on}
use Rattle.protocol.proofs.Blocking.{lower_blocks, blocker_before, still_waits, lower_is, tick_of_running, told_is, end_clears, blocker_bound}

-- while task h blocks i: i has not been told to wait or waits now, and all ticks of lower tasks are of one instance of h
pub record Held (i : ℕ) (during : List Event) (s : State) (h : ℕ) : Type 0 where
  pub told : (count (told_to_wait i) during ≡ 0) ⊎ ((g : ℕ) × (standing_at s.tasks i ≡ Waiting g))
  pub ran : count (lower_ticks i) during ≤ (task_at s.tasks h).used
  pub only : AllByRecursion (λ e. (k : ℕ) → runner e.answer ≡ Some k → i < k → h ≡ k) during
  pub lasting : NoEnd h during

-- any two ticks of lower tasks are the same task's, and it does not end between them
abbrev pub OneLower : ℕ → List Event → Type 0
OneLower i during = (newer between older : List Event) (late early : Event) (j k : ℕ) → during ≡ newer ++ (late ∷ (between ++ (early ∷ older))) → runner late.answer ≡ Some j → i < j → runner early.answer ≡ Some k → i < k → (j ≡ k) × NoEnd j between

-- what a stretch that led to s says of the delay of task i
pub record Delay (setup : Setup) (i : ℕ) (during : List Event) (s : State) : Type 0 where
  pub once : count (told_to_wait i) during ≤ 1
  pub bounded : count (lower_ticks i) during ≤ bound setup.rule setup.plan i
  pub one : OneLower i during
  pub held : (h : ℕ) → Blocker (lock_ceiling setup) s.locks i h → Held i during s h

-- one more call
module _ (setup : Setup) (i : ℕ) (few : length setup.plan.rows ≤ 16) (s : State) (during : List Event) (k : Kept setup s) (busy : Busy (standing_at s.tasks) i) (d : Delay setup i during s) (c : Call) where
  -- the kind of the call
  is : Kind setup s (member setup s c) (step setup s c).left.tasks (step setup s c).left.locks
  is = kind setup s c

  -- and the change that it makes
  move : Move (lock_ceiling setup) (Planned setup) (standing_at s.tasks) (standing_at (step setup s c).left.tasks) s.locks (step setup s c).left.locks
  move = move_of setup s (rw k.sized few) is

  -- the lower task that runs a tick blocks i
  ticker_blocks : (j : ℕ) → runner (step setup s c).answer ≡ Some j → i < j → Blocker (lock_ceiling setup) s.locks i j
  ticker_blocks j r l = lower_blocks k.sound j i (runs s.tasks j (tick_of_running setup s is j r).0) busy l

  -- whoever blocks i, the tick is its
  ticker_is : (h j : ℕ) → Blocker (lock_ceiling setup) s.locks i h → runner (step setup s c).answer ≡ Some j → i < j → h ≡ j
  ticker_is h j b r l = one_blocker k.sound i h j b (ticker_blocks j r l)

  -- it tells i to wait only if it has not been told
  once_on : count (told_to_wait i) (member setup s c ∷ during) ≤ 1
  once_on = cond_both (told_to_wait i (member setup s c)) 1 0 (λ n. n + count (told_to_wait i) during ≤ 1)
      (λ t. let (b, run, held, blocked, now) = told_is setup s is i t in
      let r = runs s.tasks i run in
      let h = d.held b.task (blocked_by_lower k.sound i b r held blocked.other blocked.reaches) in
      elim h.told [ inl z ↦ omega arith | inr w ↦ absurd (ready_not_wait w.0 (sym r.ready ∙ w.1)) ])
      (λ _. let o = d.once in omega arith)

  -- one more tick of a lower task is within the budget of the task that blocks i
  bounded_on : count (lower_ticks i) (member setup s c ∷ during) ≤ bound setup.rule setup.plan i
  bounded_on = cond_both (lower_ticks i (member setup s c)) 1 0 (λ n. n + count (lower_ticks i) during ≤ bound setup.rule setup.plan i)
      (λ t. let (j, r, l) = lower_is i (runner (step setup s c).answer) t in
      let b = ticker_blocks j r l in
      let less = (tick_of_running setup s is j r).1 in
      let most = blocker_bound setup s i j k b in
      let h = (d.held j b).ran in
      omega arith)
      (λ _. let o = d.bounded in omega arith)

  -- it is of the task that ran those before it
  one_on : OneLower i (member setup s c ∷ during)
  one_on [] between older late early j n e rl l re m =
      let head : late ≡ member setup s c = cc in
      let tail : during ≡ between ++ (early ∷ older) = cc in
      let h = d.held j (ticker_blocks j (ap (λ (x : Event). runner x.answer) (sym head) ∙ rl) l) in (
        (all_parts (λ x. (k : ℕ) → runner x.answer ≡ Some k → i < k → j ≡ k) between (early ∷ older) (subst (AllByRecursion (λ x. (k : ℕ) → runner x.answer ≡ Some k → i < k → j ≡ k)) tail h.only)).1.0 n re m,
        (all_parts (λ x. ends j x ≡ false) between (early ∷ older) (subst (NoEnd j) tail h.lasting)).0,
      )
  one_on (x ∷ newer) between older late early j n e rl l re m =
      let tail : during ≡ newer ++ (late ∷ (between ++ (early ∷ older))) = cc in
      d.one newer between older late early j n tail rl l re m

  -- whoever blocks i after the call did so before it
  held_on : (h : ℕ) → Blocker (lock_ceiling setup) (step setup s c).left.locks i h → Held i (member setup s c ∷ during) (step setup s c).left h
  held_on h b = record { told = told_on; ran = ran_on; only = (λ n r l. ticker_is h n was r l, old.only); lasting = (lasts, old.lasting) }
    where
      was : Blocker (lock_ceiling setup) s.locks i h
      was = blocker_before k.sound move i h busy b

      old : Held i during s h
      old = d.held h was

      told_on : (count (told_to_wait i) (member setup s c ∷ during) ≡ 0) ⊎ ((g : ℕ) × (standing_at (step setup s c).left.tasks i ≡ Waiting g))
      told_on = elim old.told [
        | inr w ↦ inr (w.0, still_waits k.sound move i w.0 h w.1 b)
        | inl z ↦ elim (cases_Bool (told_to_wait i (member setup s c))) [
          | inl t ↦ (let (x, run, held, blocked, now) = told_is setup s is i t in inr (x.task, now))
          | inr f ↦ inl (rw (cond-false {A = ℕ} (told_to_wait i (member setup s c)) 1 0 f) (omega arith))
        ]
      ]

      ready : standing_at s.tasks h ≡ Ready
      ready = subst (λ n. standing_at s.tasks n ≡ Ready) was.own (k.sound.holder_ready was.lock was.held)

      after : (task_at (step setup s c).left.tasks h).used ≡ (task_at s.tasks h).used + cond (ticks h (member setup s c)) 1 0
      after = used_after (counted setup s h (rw k.sized few) is) (ap is_open ready)

      ran_on : count (lower_ticks i) (member setup s c ∷ during) ≤ (task_at (step setup s c).left.tasks h).used
      ran_on = rw after (cond_both (lower_ticks i (member setup s c)) 1 0 (λ n. n + count (lower_ticks i) during ≤ (task_at s.tasks h).used + cond (ticks h (member setup s c)) 1 0)
          (λ t. let (j, r, l) = lower_is i (runner (step setup s c).answer) t in
          let own : ticks h (member setup s c) ≡ true = ap (names h) r ∙ eq-eqb j h (sym (ticker_is h j was r l)) in
          rw (cond-true {A = ℕ} (ticks h (member setup s c)) 1 0 own) (let o = old.ran in omega arith))
          (λ _. let o = old.ran in omega arith))

      lasts : ends h (member setup s c) ≡ false
      lasts = elim (cases_Bool (ends h (member setup s c))) [
        | inr f ↦ f
        | inl t ↦ absurd (end_clears setup s is h t b.lock b.held b.own)
      ]

  -- so all of it is kept
  delay_on : Delay setup i (member setup s c ∷ during) (step setup s c).left
  delay_on = record { once = once_on; bounded = bounded_on; one = one_on; held = held_on }

-- over every stretch
pub delay : (setup : Setup) (i : ℕ) (start s : State) (during : List Event) → length setup.plan.rows ≤ 16 → Kept setup start → Stretch setup i start during s → Kept setup s × Delay setup i during s
delay setup i start s during few k here = (
  k,
  record {
    once = omega arith;
    bounded = omega arith;
    one = λ newer between older late early j n e rl l re m. absurd (nothing newer between older late early e);
    held = λ h b. record { told = inl refl; ran = omega arith; only = tt; lasting = tt };
  },
)
  where
    nothing : (newer between older : List Event) (late early : Event) → [] ≡ newer ++ (late ∷ (between ++ (early ∷ older))) → ⊥
    nothing [] between older late early e = let z : ◌≡◌ {A = ℕ} 0 1 = cc in omega arith
    nothing (x ∷ newer) between older late early e = let z : ◌≡◌ {A = ℕ} 0 1 = cc in omega arith
delay setup i start s during few k (on {line = line} {s = t} stretch busy c) =
    let (now, d) = delay setup i start t line few k stretch in
    (kept_step setup t c few now, delay_on setup i few t line now busy d c)
