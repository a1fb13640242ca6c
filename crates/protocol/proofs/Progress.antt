-- What the next call comes to: a refusal changes nothing, and what is asked as it should be is not refused.
use Rattle.std.proofs.Common.{◌≡◌, ℕ, ◌<◌, ◌≤◌, Bool, true, false, cond, not, ◌&&◌, eqb, ltb, List, [], ◌∷◌, ◌++◌, length, get_or, ℤ, pos, Some, None, filter, Option, sym, refl, ap, ◌∙◌, inl, inr, arith}
use Rattle.std.specs.List.{ContainsAt}
use Rattle.std.proofs.lemmas.List.{get_or-set_same}
use Rattle.std.proofs.ByRecursion.{all-has}
use Rattle.std.proofs.lemmas.Bool.{true≢false, both_ways, cases_Bool, cases_eq, cases_lt, cond-true, cond-false, and_parts, and_from, or_left, or_right, not_from_true, eqb-true, eq-eqb, ltb-true, lt-ltb, le-ltb}
use Rattle.rules.specs.Meaning.{Lawful, touches, is_part}
use Rattle.plans.specs.Contents.{budget_of}
use Rattle.plans.specs.Limits.{UseLimits}
use Rattle.plans.specs.declared.parts.Use.{Use}
use Rattle.plans.specs.declared.refusal.Refusal.{Refusal}
use Rattle.protocol.specs.declared.words.Standing.TheVariants.{Waiting}
use Rattle.protocol.specs.declared.words.Task.{Task}
use Rattle.protocol.specs.declared.words.LockRecord.{LockRecord}
use Rattle.protocol.specs.declared.words.Call.{Call}
use Rattle.protocol.specs.declared.words.Call.TheVariants.{Close, Drop}
use Rattle.protocol.specs.declared.words.Answer.TheVariants.{Granted, Wait, Closed, Dropped, Refused}
use Rattle.protocol.specs.Tasks.{task_at, standing_at, is_open, running}
use Rattle.protocol.specs.Machine.{Setup, State, Outcome, step, any, names, has_task, has_object, few_cells, is_running, is_use, is_record, covers, stand, arrived, lock_ceiling, blocks, newest_task, wait_or_grant, tick_of, account_of, cell_of, put_back, own_image, ended}
use Rattle.protocol.specs.Lines.{Event, Started, Line, none, more, accepted}
use Rattle.protocol.specs.Answers.{Asks, asking, asked_record, Answers}
use Rattle.protocol.proofs.Lists.{has_any, any_has}
use Rattle.protocol.proofs.Places.{runs}
use Rattle.protocol.proofs.Steps.{Step, step_is, newest_some, newest_none}
use Rattle.protocol.proofs.Outcomes.{Kind, kind, blocks_true, blocks_false}
use Rattle.protocol.proofs.Moves.{changed_same, changed_other, ready_there, ended_own}
use Rattle.protocol.proofs.Invariant.{blocked_by_lower, one_blocker}
use Rattle.protocol.proofs.Reached.{kept, all_rest}
use Rattle.protocol.proofs.Serial.{open_at, same_open, running_open, ticked_open, ended_open}
use Rattle.protocol.proofs.Starts.{enough_cells}

-- a refused call changes nothing
refused_keeps : (setup : Setup) (s : State) (c : Call) (o : Outcome) → Step setup s c o → (why : Refusal) → o.answer ≡ Refused why → o.left ≡ s
refused_keeps setup s c o (Step.refuses _ _) why e = refl
refused_keeps setup s c o (Step.arrives task there rest) why e = absurd (true≢false (ap accepted e))
refused_keeps setup s c o (Step.waits task object mode h b run is_planned not_held held own t) why e = absurd (true≢false (ap accepted e))
refused_keeps setup s c o (Step.grants task object mode run is_planned not_held free room) why e = absurd (true≢false (ap accepted e))
refused_keeps setup s c o (Step.reads task object part run may) why e = absurd (true≢false (ap accepted e))
refused_keeps setup s c o (Step.writes task object part value run may room) why e = absurd (true≢false (ap accepted e))
refused_keeps setup s c o (Step.closes task run) why e = absurd (true≢false (ap accepted e))
refused_keeps setup s c o (Step.drops task run) why e = absurd (true≢false (ap accepted e))
refused_keeps setup s c o (Step.ticks j run less) why e = absurd (true≢false (ap accepted e))
refused_keeps setup s c o (Step.idles nobody) why e = absurd (true≢false (ap accepted e))

-- ---- open tasks are the plan's

-- a call opens no other
planned_step : (setup : Setup) (s : State) {e : Event} {tasks : List Task} {locks : List LockRecord} → Kind setup s e tasks locks → ((k : ℕ) → open_at s.tasks k ≡ true → k < length setup.plan.rows) → (k : ℕ) → open_at tasks k ≡ true → k < length setup.plan.rows
planned_step setup s (Kind.quiet _ q no_end) was k o = was k o
planned_step setup s (Kind.arrives task there rest) was k o = elim (cases_eq k task) [
  | inl own ↦ rw own there
  | inr n ↦ was k (same_open s.tasks _ k (changed_other (λ _. arrived) s.tasks task k n) o)
]
planned_step setup s (Kind.waits task object mode b run held t) was k o = elim (cases_eq k task) [
  | inl own ↦ rw own (was task (running_open s.tasks task run))
  | inr n ↦ was k (same_open s.tasks _ k (changed_other (stand (Waiting b.task)) s.tasks task k n) o)
]
planned_step setup s (Kind.grants _ r q no_end run plan free) was k o = was k o
planned_step setup s (Kind.finishes _ j q end account run) was k o = was k (ended_open s.tasks j run k o).1
planned_step setup s (Kind.runs j run less) was k o = was k (ticked_open s.tasks j run k o)

-- nor does a line
planned_line : (setup : Setup) (cells : List ℤ) (start s : State) (line : List Event) → Started setup cells start → Line setup start line s → (k : ℕ) → open_at s.tasks k ≡ true → k < length setup.plan.rows
planned_line setup cells start s line made none k o = absurd (true≢false (sym o ∙ (ap (λ (t : State). open_at t.tasks k) made.left ∙ ap (λ (t : Task). is_open t.standing) (all_rest k))))
planned_line setup cells start s line made (more {line = l} {s = t} before c) k o = planned_step setup t (kind setup t c) (planned_line setup cells start t l made before) k o

-- ---- checks that pass

-- one that refuses where its test fails
passes : {b : Bool} (x y : Outcome) → b ≡ true → cond (not b) x y ≡ y
passes {b} x y t = cond-false (not b) x y (not_from_true b t)

-- one that refuses where its test passes
fails : {b : Bool} (x y : Outcome) → b ≡ false → cond b x y ≡ y
fails {b} x y f = cond-false b x y f

-- what an outcome answers
says : {x y : Outcome} → x ≡ y → x.answer ≡ y.answer
says e = ap (λ (o : Outcome). o.answer) e

-- how a task record stands
standing_of : {x y : Task} → x ≡ y → x.standing ≡ y.standing
standing_of e = ap (λ (t : Task). t.standing) e

module _ (setup : Setup) (cells : List ℤ) (start s : State) (line : List Event) (lawful : Lawful setup.rule) (made : Started setup cells start) (line_to : Line setup start line s) where
  -- there are 16 task records
  sized : length s.tasks ≡ 16
  sized = (kept setup cells start s line made line_to).sized

  -- the plan has no more
  few : length setup.plan.rows ≤ 16
  few = made.limits.few_tasks

  -- there are enough cells
  enough : few_cells s ≡ false
  enough = le-ltb (length s.cells) 128 (enough_cells setup cells start made s line line_to)

  -- the running task is there
  there : (j : ℕ) → running s.tasks ≡ Some j → has_task setup j ≡ true
  there j run = lt-ltb j (length setup.plan.rows) (planned_line setup cells start s line made line_to j (running_open s.tasks j run))

  -- and is known to run
  is_it : (j : ℕ) → running s.tasks ≡ Some j → is_running s j ≡ true
  is_it j run = ap (names j) run ∙ eq-eqb j j refl

  -- a use of the plan keeps its limits
  use_limits : (u : Use) → ContainsAt setup.plan.uses u → UseLimits setup.rule setup.plan u
  use_limits u i = all-has (UseLimits setup.rule setup.plan) setup.plan.uses u made.limits.uses_keep i

  -- ---- locks

  -- what is asked for is not held
  not_held : (u : Use) → Asks setup s u → any (is_record u.task u.object u.mode) s.locks ≡ false
  not_held u a = elim (cases_Bool (any (is_record u.task u.object u.mode) s.locks)) [
    | inr f ↦ f
    | inl t ↦ (let (r, i, e) = has_any (is_record u.task u.object u.mode) s.locks t in
        let (task, rest) = and_parts (eqb r.task u.task) (eqb r.object u.object && eqb r.mode u.mode) e in
        let (object, mode) = and_parts (eqb r.object u.object) (eqb r.mode u.mode) rest in
        absurd (a.not_held r i (eqb-true r.task u.task task) (eqb-true r.object u.object object) (eqb-true r.mode u.mode mode)))
  ]

  -- so a lock that is asked for passes all checks
  asked : (u : Use) → Asks setup s u → step setup s (asking u) ≡ wait_or_grant setup s u.task u.object u.mode (newest_task (blocks setup u.task) s.locks)
  asked u a =
      let l = use_limits u a.listed in
      let numbers = and_from _ _ (lt-ltb u.task (length setup.plan.rows) l.task_there) (and_from _ _ (lt-ltb u.object (length setup.plan.objects) l.object_there) (lt-ltb u.mode setup.rule.modes l.mode_there)) in
      let own = and_from _ _ (eq-eqb u.task u.task refl) (and_from _ _ (eq-eqb u.object u.object refl) (eq-eqb u.mode u.mode refl)) in
      passes _ _ numbers ∙ (passes _ _ (is_it u.task a.runs) ∙ (passes _ _ (any_has (is_use u.task u.object u.mode) setup.plan.uses u a.listed own) ∙ fails _ _ (not_held u a)))

  -- all that block the asker are one task, and it waits for that one
  waits_for_it : (u : Use) → Asks setup s u → (b : LockRecord) → ContainsAt s.locks b → (b.task ≡ u.task → ⊥) → lock_ceiling setup b ≤ u.task → (n : Option ℕ) → newest_task (blocks setup u.task) s.locks ≡ n → let o = wait_or_grant setup s u.task u.object u.mode n in (o.answer ≡ Wait b.task) × (standing_at o.left.tasks u.task ≡ Waiting b.task)
  waits_for_it u a b i other le None e = let past = blocks_false setup u.task b (newest_none (blocks setup u.task) s.locks e b i) other in absurd (omega arith)
  waits_for_it u a b i other le (Some h) e =
      let sound = (kept setup cells start s line made line_to).sound in
      let run = runs s.tasks u.task a.runs in
      let (d, k, own, t) = newest_some (blocks setup u.task) s.locks h e in
      let by = blocks_true setup u.task d t in
      let same : h ≡ b.task = sym own ∙ one_blocker sound u.task d.task b.task (blocked_by_lower sound u.task d run k by.other by.reaches) (blocked_by_lower sound u.task b run i other le) in
      (ap Wait same, standing_of (changed_same (stand (Waiting h)) s.tasks u.task (ready_there s.tasks u.task run.ready)) ∙ ap Waiting same)

  -- where nothing blocks the asker, the lock is granted
  granted : (u : Use) → ((b : LockRecord) → ContainsAt s.locks b → (b.task ≡ u.task → ⊥) → u.task < lock_ceiling setup b) → length s.locks < setup.lock_room → (n : Option ℕ) → newest_task (blocks setup u.task) s.locks ≡ n → let o = wait_or_grant setup s u.task u.object u.mode n in (o.answer ≡ Granted) × (o.left.locks ≡ s.locks ++ (asked_record u ∷ []))
  granted u free room None e = let is = cond-true (ltb (length s.locks) setup.lock_room) _ _ (lt-ltb (length s.locks) setup.lock_room room) in (says is, ap (λ (o : Outcome). o.left.locks) is)
  granted u free room (Some h) e =
      let (d, k, own, t) = newest_some (blocks setup u.task) s.locks h e in
      let by = blocks_true setup u.task d t in
      let past = free d k by.other in
      absurd (omega (arith, by.reaches))

  -- ---- reads and writes

  -- a mode touches only the parts 0 to 3
  part_there : (mode part : ℕ) → touches setup.rule mode part ≡ true → is_part part ≡ true
  part_there mode part t = elim (cases_lt part 4) [
    | inl l ↦ lt-ltb part 4 l
    | inr past ↦ absurd (both_ways (touches setup.rule mode part) (lawful.four_parts mode part past) t)
  ]

  -- the numbers of a call that a lock covers are there
  numbers_there : (r : LockRecord) (part : ℕ) → ContainsAt s.locks r → touches setup.rule r.mode part ≡ true → has_task setup r.task && (has_object setup r.object && is_part part) ≡ true
  numbers_there r part i t =
      let plan = (kept setup cells start s line made line_to).sound.planned r i in
      let l = use_limits plan.entry plan.listed in
      and_from _ _ (lt-ltb r.task (length setup.plan.rows) (omega (arith, l.task_there, plan.of_task)))
      (and_from _ _ (lt-ltb r.object (length setup.plan.objects) (omega (arith, l.object_there, plan.of_object))) (part_there r.mode part t))

  -- and the lock is found
  covered : (mode_passes : ℕ → Bool) (r : LockRecord) → ContainsAt s.locks r → mode_passes r.mode ≡ true → any (covers mode_passes r.task r.object) s.locks ≡ true
  covered mode_passes r i t = any_has (covers mode_passes r.task r.object) s.locks r i (and_from _ _ (eq-eqb r.task r.task refl) (and_from _ _ (eq-eqb r.object r.object refl) t))

  -- the cell of a part that a lock touches is there
  cell_there : (r : LockRecord) (part : ℕ) → ContainsAt s.locks r → touches setup.rule r.mode part ≡ true → cell_of r.object part < length s.cells
  cell_there r part i t =
      let plan = (kept setup cells start s line made line_to).sound.planned r i in
      let l = use_limits plan.entry plan.listed in
      let p = ltb-true part 4 (part_there r.mode part t) in
      omega (arith, l.object_there, plan.of_object, made.limits.few_objects, enough_cells setup cells start made s line line_to)

  -- what the running task's close comes to
  closed : (j : ℕ) → running s.tasks ≡ Some j → step setup s (Close j) ≡ record { answer = Closed (account_of s j); left = ended s j s.cells }
  closed j run = passes _ _ (there j run) ∙ passes _ _ (is_it j run)

  -- and its drop
  dropped : (j : ℕ) → running s.tasks ≡ Some j → step setup s (Drop j) ≡ record { answer = Dropped (account_of s j); left = ended s j (put_back (filter (own_image j) s.journal) s.cells) }
  dropped j run = fails _ _ enough ∙ (passes _ _ (there j run) ∙ passes _ _ (is_it j run))

  -- all that is said of the next call
  pub answers : Answers setup s
  answers = record {
    refused_keeps = λ c why e. refused_keeps setup s c (step setup s c) (step_is setup s c) why e;
    arrive_opens = λ task l rest.
        let is = passes _ _ (lt-ltb task (length setup.plan.rows) l) ∙ fails _ _ (ap is_open rest) in
        (says is, ap (λ (o : Outcome). standing_at o.left.tasks task) is ∙ standing_of (changed_same (λ _. arrived) s.tasks task (omega (arith, few, sized))));
    tick_ran = λ j run less. ap (λ o. (tick_of setup s o).answer) run ∙ says (cond-true (ltb (task_at s.tasks j).used (budget_of setup.plan j)) _ _ (lt-ltb (task_at s.tasks j).used (budget_of setup.plan j) less));
    tick_idle = λ nobody. ap (λ o. (tick_of setup s o).answer) nobody;
    close_closed = λ j run. (says (closed j run), ap (λ (o : Outcome). standing_at o.left.tasks j) (closed j run) ∙ standing_of (ended_own s.tasks j (runs s.tasks j run).ready));
    drop_dropped = λ j run. (says (dropped j run), ap (λ (o : Outcome). standing_at o.left.tasks j) (dropped j run) ∙ standing_of (ended_own s.tasks j (runs s.tasks j run).ready));
    blocked_waits = λ u a b i other le.
        let w = waits_for_it u a b i other le (newest_task (blocks setup u.task) s.locks) refl in
        (says (asked u a) ∙ w.0, ap (λ (o : Outcome). standing_at o.left.tasks u.task) (asked u a) ∙ w.1);
    free_granted = λ u a free room.
        let g = granted u free room (newest_task (blocks setup u.task) s.locks) refl in
        (says (asked u a) ∙ g.0, ap (λ (o : Outcome). o.left.locks) (asked u a) ∙ g.1);
    read_value = λ r part run i t. says (fails _ _ enough ∙ (passes _ _ (numbers_there r part i (or_left _ _ t)) ∙ (passes _ _ (is_it r.task run) ∙ passes _ _ (covered (λ mode. setup.rule.reads mode part) r i t))));
    write_written = λ r part v run i t room.
        let is = fails _ _ enough ∙ (passes _ _ (numbers_there r part i (or_right _ _ t)) ∙ (passes _ _ (is_it r.task run) ∙ (passes _ _ (covered (λ mode. setup.rule.writes mode part) r i t) ∙ passes _ _ (lt-ltb (length s.journal) setup.journal_room room)))) in
        (says is, ap (λ (o : Outcome). get_or o.left.cells (cell_of r.object part) (pos 0)) is ∙ get_or-set_same s.cells (cell_of r.object part) v (pos 0) (cell_there r part i (or_right _ _ t)));
  }
