-- Parts of a line: where a line can be cut, what its first and last members did, and the stretches in which a task is open.
use Rattle.std.proofs.Common.{◌≡◌, ℕ, ◌≤◌, true, false, eqb, List, [], ◌∷◌, ◌++◌, length, Some, sym, refl, ap, ◌∙◌, subst, inl, inr, arith}
use Rattle.std.proofs.lemmas.Bool.{cases_eq, eqb-true, and_parts, false≢true, both_ways}
use Rattle.protocol.specs.declared.words.Standing.{Standing}
use Rattle.protocol.specs.declared.words.Standing.TheVariants.{Waiting}
use Rattle.protocol.specs.declared.words.Task.{Task}
use Rattle.protocol.specs.declared.words.LockRecord.{LockRecord}
use Rattle.protocol.specs.declared.words.Call.{Call}
use Rattle.protocol.specs.Tasks.{task_at, standing_at, is_open}
use Rattle.protocol.specs.Machine.{Setup, State, step, stand, arrived, account_of}
use Rattle.protocol.specs.Lines.{Event, Line, none, more, begins, ends}
use Rattle.protocol.specs.Laws.{NoEnd, account_in}
use Rattle.protocol.proofs.Places.{runs, waits_cases}
use Rattle.protocol.proofs.Outcomes.{Kind, member, kind}
use Rattle.protocol.proofs.Moves.{changed_same, changed_other, ready_there, ended_waiter, ended_other, tick_standing}
use Rattle.protocol.proofs.Reached.{Kept, kept_line}

-- ---- cutting a line

-- a line can be cut anywhere
pub cut : (setup : Setup) (start s : State) (line : List Event) → Line setup start line s → (newer older : List Event) → line ≡ newer ++ older → (t : State) × Line setup start older t × Line setup t newer s
cut setup start s line none [] older e = (start, subst (λ l. Line setup start l start) e none, none)
cut setup start s line none (x ∷ newer) older e = let z : ◌≡◌ {A = ℕ} 0 1 = cc in absurd (omega arith)
cut setup start s line (more {line = l} {s = t} before c) [] older e = ((step setup t c).left, subst (λ l. Line setup start l (step setup t c).left) e (more before c), none)
cut setup start s line (more {line = l} {s = t} before c) (x ∷ newer) older e =
    let head : member setup t c ≡ x = cc in
    let tail : l ≡ newer ++ older = cc in
    let (u, first, last) = cut setup start t l before newer older tail in
    (u, first, subst (λ y. Line setup u (y ∷ newer) (step setup t c).left) head (more last c))

-- the newest member of a line is a call on what the others led to
pub record Newest (setup : Setup) (start s : State) (e : Event) (older : List Event) : Type 0 where
  pub found : State
  pub before : Line setup start older found
  pub made : Call
  pub is : e ≡ member setup found made
  pub leaves : s ≡ (step setup found made).left

-- every line but the empty one has such a member
pub newest : (setup : Setup) (start s : State) (line : List Event) → Line setup start line s → (e : Event) (older : List Event) → line ≡ e ∷ older → Newest setup start s e older
newest setup start s line none e older q = let z : ◌≡◌ {A = ℕ} 0 1 = cc in absurd (omega arith)
newest setup start s line (more {line = l} {s = t} before c) e older q =
    let head : e ≡ member setup t c = cc in
    let tail : l ≡ older = cc in
    record { found = t; before = subst (λ m. Line setup start m t) tail before; made = c; is = head; leaves = refl }

-- ---- arrivals and ends

module _ (setup : Setup) (s : State) (i : ℕ) where
  -- an accepted arrive of a task makes its record anew
  pub begins_is : {e : Event} {tasks : List Task} {locks : List LockRecord} → length setup.plan.rows ≤ length s.tasks → Kind setup s e tasks locks → begins i e ≡ true → task_at tasks i ≡ arrived
  begins_is {e} sized (Kind.quiet _ q no_end) b = absurd (both_ways (begins i e) (q.no_begin i) b)
  begins_is {e} sized (Kind.arrives task there rest) b =
      let own : task ≡ i = eqb-true task i (and_parts (eqb task i) true b).0 in
      rw (← own) (changed_same (λ _. arrived) s.tasks task (omega arith))
  begins_is {e} sized (Kind.waits task object mode lock run held t) b = absurd (false≢true b)
  begins_is {e} sized (Kind.grants _ r q no_end run plan free) b = absurd (both_ways (begins i e) (q.no_begin i) b)
  begins_is {e} sized (Kind.finishes _ j q end account run) b = absurd (both_ways (begins i e) (q.no_begin i) b)
  begins_is {e} sized (Kind.runs j run less) b = absurd (false≢true b)

  -- an accepted close or drop answers the task's account
  pub ends_answers : {e : Event} {tasks : List Task} {locks : List LockRecord} → Kind setup s e tasks locks → ends i e ≡ true → account_in e.answer ≡ Some (account_of s i)
  ends_answers {e} (Kind.quiet _ q no_end) b = absurd (both_ways (ends i e) (no_end i) b)
  ends_answers {e} (Kind.arrives task there rest) b = absurd (false≢true b)
  ends_answers {e} (Kind.waits task object mode lock run held t) b = absurd (false≢true b)
  ends_answers {e} (Kind.grants _ r q no_end run plan free) b = absurd (both_ways (ends i e) (no_end i) b)
  ends_answers {e} (Kind.finishes _ j q end account run) b = account ∙ ap (λ k. Some (account_of s k)) ((end i).0 b)
  ends_answers {e} (Kind.runs j run less) b = absurd (false≢true b)

  -- a task stays open until its accepted close or drop
  pub open_kept : {e : Event} {tasks : List Task} {locks : List LockRecord} → length setup.plan.rows ≤ length s.tasks → Kind setup s e tasks locks → ends i e ≡ false → is_open (standing_at s.tasks i) ≡ true → is_open (standing_at tasks i) ≡ true
  open_kept {e} sized (Kind.quiet _ q no_end) lasts op = op
  open_kept {e} sized (Kind.arrives task there rest) lasts op = elim (cases_eq i task) [
    | inl own ↦ rw own (ap (λ (t : Task). is_open t.standing) (changed_same (λ _. arrived) s.tasks task (omega arith)))
    | inr n ↦ ap (λ (t : Task). is_open t.standing) (changed_other (λ _. arrived) s.tasks task i n) ∙ op
  ]
  open_kept {e} sized (Kind.waits task object mode lock run held t) lasts op = elim (cases_eq i task) [
    | inl own ↦ rw own (ap (λ (t : Task). is_open t.standing) (changed_same (stand (Waiting lock.task)) s.tasks task (ready_there s.tasks task (runs s.tasks task run).ready)))
    | inr n ↦ ap (λ (t : Task). is_open t.standing) (changed_other (stand (Waiting lock.task)) s.tasks task i n) ∙ op
  ]
  open_kept {e} sized (Kind.grants _ r q no_end run plan free) lasts op = op
  open_kept {e} sized (Kind.finishes _ j q end account run) lasts op =
      let ready = (runs s.tasks j run).ready in
      elim (waits_cases j (standing_at s.tasks i)) [
        | inl w ↦ ap (λ (t : Task). is_open t.standing) (ended_waiter s.tasks j ready i w)
        | inr other ↦ ap (λ (t : Task). is_open t.standing) (ended_other s.tasks j ready i (λ own. both_ways (ends i e) lasts ((end i).1 (sym own))) other) ∙ op
      ]
  open_kept {e} sized (Kind.runs j run less) lasts op = ap is_open (tick_standing s.tasks j i run) ∙ op

-- ---- stretches

-- some task numbered at most i is open
abbrev pub Busy : (ℕ → Standing) → ℕ → Type 0
Busy standing i = (k : ℕ) × (k ≤ i) × (is_open (standing k) ≡ true)

-- a line before each call of which some task numbered at most i is open
pub data Stretch (setup : Setup) (i : ℕ) (start : State) : List Event → State → Type 0 where
  here : Stretch setup i start [] start
  on : {line : List Event} {s : State} → Stretch setup i start line s → Busy (standing_at s.tasks) i → (c : Call) → Stretch setup i start (member setup s c ∷ line) (step setup s c).left

-- while task i is open, a line is such a stretch
pub instance_stretch : (setup : Setup) (i : ℕ) (start s : State) (during : List Event) → length setup.plan.rows ≤ 16 → Kept setup start → is_open (standing_at start.tasks i) ≡ true → Line setup start during s → NoEnd i during → Stretch setup i start during s × (is_open (standing_at s.tasks i) ≡ true)
instance_stretch setup i start s during few k op none lasting = (here, op)
instance_stretch setup i start s during few k op (more {line = l} {s = t} before c) lasting =
    let (stretch, now) = instance_stretch setup i start t l few k op before lasting.1 in
    let sized = (kept_line setup start t l few k before).sized in
    (on stretch (i, omega arith, now) c, open_kept setup t i (rw sized few) (kind setup t c) lasting.0 now)
