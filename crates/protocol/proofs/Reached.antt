-- What holds in every state that a line leads to: the invariant, and the laws that follow from it alone.
use Rattle.std.proofs.Common.{◌≡◌, ℕ, ◌<◌, ◌≤◌, min, true, false, eqb, List, [], ◌∷◌, ◌++◌, length, replicate, ℤ, Some, None, sym, refl, ap, ◌∙◌, subst, inl, inr, arith}
use Rattle.std.specs.List.{ContainsAt}
use Rattle.std.proofs.lemmas.List.{get_or-replicate, get_or_past}
use Rattle.std.proofs.ByRecursion.{all-has, has_push}
use Rattle.std.proofs.lemmas.Bool.{cond_both, cond-true, cases_lt, cases_order, cases_Bool, eq-eqb, and_from}
use Rattle.rules.specs.Meaning.{Meaning, Lawful, touches}
use Rattle.plans.specs.Limits.{UseLimits}
use Rattle.plans.specs.Ceilings.{ceiling, excluded}
use Rattle.plans.specs.declared.parts.Use.{Use}
use Rattle.protocol.specs.declared.words.Standing.{Standing}
use Rattle.protocol.specs.declared.words.Standing.TheVariants.{Resting, Ready, Waiting}
use Rattle.protocol.specs.declared.words.Task.{Task}
use Rattle.protocol.specs.declared.words.LockRecord.{LockRecord}
use Rattle.protocol.specs.declared.words.Call.{Call}
use Rattle.protocol.specs.Tasks.{resting, task_at, standing_at, is_open, running}
use Rattle.protocol.specs.Machine.{Setup, State, made, step, lock_ceiling}
use Rattle.protocol.specs.Lines.{Event, Started, Line, none, more}
use Rattle.protocol.proofs.Lists.{has_none, has_cases, Pairs, pairs_newest}
use Rattle.protocol.proofs.Places.{runs, nobody_ready, rest_not_wait, ready_not_wait}
use Rattle.protocol.proofs.Outcomes.{Planned, kind}
use Rattle.protocol.proofs.Moves.{move_of, length_kept}
use Rattle.protocol.proofs.Invariant.{Sound, NotLower, sound_kept, awaited_ready, runs_highest}

-- the invariant of a state: there are 16 tasks, and standings and locks are sound
pub record Kept (setup : Setup) (s : State) : Type 0 where
  pub sized : length s.tasks ≡ 16
  pub sound : Sound (lock_ceiling setup) (Planned setup) (standing_at s.tasks) s.locks

-- at the start every task rests
pub all_rest : (k : ℕ) → task_at (replicate 16 resting) k ≡ resting
all_rest k = elim (cases_lt k 16) [ inl l ↦ get_or-replicate 16 k resting resting l | inr past ↦ get_or_past (replicate 16 resting) k resting past ]

-- so making leaves a state that is sound
kept_made : (setup : Setup) (cells : List ℤ) → Kept setup (made setup cells)
kept_made setup cells = record {
  sized = refl;
  sound = record {
    holder_ready = λ r i. absurd (has_none r i);
    planned = λ r i. absurd (has_none r i);
    clear = λ p q i k l. absurd (has_none p i);
    by_priority = tt;
    why = λ w h e. absurd (rest_not_wait h (sym (ap (λ (t : Task). t.standing) (all_rest w)) ∙ e));
  };
}

-- a call keeps it
pub kept_step : (setup : Setup) (s : State) (c : Call) → length setup.plan.rows ≤ 16 → Kept setup s → Kept setup (step setup s c).left
kept_step setup s c few k =
    record { sized = length_kept setup s (kind setup s c) ∙ k.sized; sound = sound_kept k.sound (move_of setup s (rw k.sized few) (kind setup s c)) }

-- a line keeps it
pub kept_line : (setup : Setup) (start s : State) (line : List Event) → length setup.plan.rows ≤ 16 → Kept setup start → Line setup start line s → Kept setup s
kept_line setup start s line few k none = k
kept_line setup start s line few k (more {line = l} {s = t} before c) = kept_step setup t c few (kept_line setup start t l few k before)

-- so it holds wherever a line from an accepted making leads
pub kept : (setup : Setup) (cells : List ℤ) (start s : State) (line : List Event) → Started setup cells start → Line setup start line s → Kept setup s
kept setup cells start s line made line_to = kept_line setup start s line made.limits.few_tasks (rw made.left (kept_made setup cells)) line_to

-- ---- ceilings

-- a use in a clashing mode bounds the ceiling
ceiling_at_most : (m : Meaning) (uses : List Use) (object held : ℕ) (u : Use) → ContainsAt uses u → excluded m object held u ≡ true → ceiling m uses object held ≤ u.task
ceiling_at_most m [] object held u i x = absurd (has_none u i)
ceiling_at_most m (v ∷ vs) object held u i x = elim (has_cases v vs u i) [
  | inl e ↦ rw (cond-true (excluded m object held v) (min v.task (ceiling m vs object held)) (ceiling m vs object held) (ap (excluded m object held) e ∙ x)) (omega (arith, ap (λ (y : Use). y.task) e))
  | inr j ↦ (let h = ceiling_at_most m vs object held u j x in
      cond_both (excluded m object held v) (min v.task (ceiling m vs object held)) (ceiling m vs object held) (λ y. y ≤ u.task) (λ _. omega arith) (λ _. h))
]

module _ (setup : Setup) (cells : List ℤ) (start s : State) (line : List Event) (made : Started setup cells start) (line_to : Line setup start line s) where
  -- every holder is open
  pub open_holders : (r : LockRecord) → ContainsAt s.locks r → is_open (standing_at s.tasks r.task) ≡ true
  open_holders r i = ap is_open ((kept setup cells start s line made line_to).sound.holder_ready r i)

  -- a lock of a lower task does not clash with that of a higher one on the same object
  pub no_clash : (p q : LockRecord) → ContainsAt s.locks p → ContainsAt s.locks q → q.task < p.task → p.object ≡ q.object → setup.rule.clashes p.mode q.mode ≡ false
  no_clash p q ip iq l same = elim (cases_Bool (setup.rule.clashes p.mode q.mode)) [
    | inr f ↦ f
    | inl t ↦ (let sound = (kept setup cells start s line made line_to).sound in
        let plan = sound.planned q iq in
        let u = plan.entry in
        let ex : excluded setup.rule p.object p.mode u ≡ true = and_from (eqb u.object p.object) (setup.rule.clashes p.mode u.mode) (eq-eqb u.object p.object (plan.of_object ∙ sym same)) (ap (setup.rule.clashes p.mode) plan.of_mode ∙ t) in
        let most = ceiling_at_most setup.rule setup.plan.uses p.object p.mode u plan.listed ex in
        let above = sound.clear q p iq ip l in
        absurd (omega (arith, plan.of_task)))
  ]

  -- the mode of a lock is there
  mode_there : (r : LockRecord) → ContainsAt s.locks r → r.mode < setup.rule.modes
  mode_there r i =
      let plan = (kept setup cells start s line made line_to).sound.planned r i in
      let limits = all-has (UseLimits setup.rule setup.plan) setup.plan.uses plan.entry made.limits.uses_keep plan.listed in
      omega (arith, limits.mode_there, plan.of_mode)

  -- locks held together by different tasks do not disturb each other
  pub apart : Lawful setup.rule → (p q : LockRecord) → ContainsAt s.locks p → ContainsAt s.locks q → (p.task ≡ q.task → ⊥) → p.object ≡ q.object → (part : ℕ) → setup.rule.writes p.mode part ≡ true → touches setup.rule q.mode part ≡ false
  apart lawful p q ip iq other same part w = elim (cases_order p.task q.task) [
    | inl e ↦ absurd (other e)
    | inr o ↦ elim o [
      | inl l ↦ lawful.wanted_apart q.mode p.mode part (mode_there q iq) (mode_there p ip) (no_clash q p iq ip l (sym same)) w
      | inr l ↦ lawful.held_apart p.mode q.mode part (mode_there p ip) (mode_there q iq) (no_clash p q ip iq l same) w
    ]
  ]

  -- a task that another waits for does not wait itself
  pub no_chain : (i h k : ℕ) → standing_at s.tasks i ≡ Waiting h → standing_at s.tasks h ≡ Waiting k → ⊥
  no_chain i h k e f = ready_not_wait k (sym (awaited_ready (kept setup cells start s line made line_to).sound i h e) ∙ f)

  -- where nobody runs, everybody rests
  pub somebody_runs : running s.tasks ≡ None → (i : ℕ) → standing_at s.tasks i ≡ Resting
  somebody_runs nobody i = from (standing_at s.tasks i) refl
    where
      from : (x : Standing) → standing_at s.tasks i ≡ x → standing_at s.tasks i ≡ Resting
      from Resting e = e
      from Ready e = absurd (nobody_ready s.tasks nobody i e)
      from (Waiting h) e = absurd (nobody_ready s.tasks nobody h (awaited_ready (kept setup cells start s line made line_to).sound i h e))

  -- a running task that holds locks holds the newest record
  pub newest_own : (j : ℕ) (held newest : LockRecord) (older : List LockRecord) → running s.tasks ≡ Some j → ContainsAt s.locks held → held.task ≡ j → s.locks ≡ older ++ (newest ∷ []) → newest.task ≡ j
  newest_own j held newest older run i own e =
      let sound = (kept setup cells start s line made line_to).sound in
      let high = runs_highest sound j newest (runs s.tasks j run) (subst (λ ls. ContainsAt ls newest) (sym e) (has_push older newest)) in
      elim (pairs_newest NotLower older newest held (subst (Pairs NotLower) e sound.by_priority) (subst (λ ls. ContainsAt ls held) e i)) [
        | inl le ↦ omega arith
        | inr same ↦ ap (λ (r : LockRecord). r.task) same ∙ own
      ]
