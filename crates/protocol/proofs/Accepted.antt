-- What the answer of the next call tells: who asked for it, and what the locks, the budget and the rooms were.
use Rattle.std.proofs.Common.{◌≡◌, ℕ, ◌<◌, ◌≤◌, Bool, true, false, ◌&&◌, eqb, ltb, ◌⊎◌, List, length, get_or, ℤ, pos, Some, None, Option, sym, refl, ap, ◌∙◌, subst, inl, inr, arith}
use Rattle.std.specs.List.{ContainsAt}
use Rattle.std.proofs.lemmas.Bool.{true≢false, false≢true, both_ways, cases_Bool, cond-true, and_parts, and_from, eqb-true, eq-eqb, ltb-false}
use Rattle.plans.specs.Contents.{budget_of}
use Rattle.plans.specs.declared.parts.Use.{Use}
use Rattle.plans.specs.declared.refusal.Refusal.{Refusal}
use Rattle.protocol.specs.declared.words.Standing.TheVariants.{Resting}
use Rattle.protocol.specs.declared.words.LockRecord.{LockRecord}
use Rattle.protocol.specs.declared.words.Call.{Call}
use Rattle.protocol.specs.declared.words.Call.TheVariants.{Arrive, Read, Write, Tick}
use Rattle.protocol.specs.declared.words.Answer.TheVariants.{Granted, Wait, Value, Ran, Idle, Refused}
use Rattle.protocol.specs.Tasks.{task_at, standing_at, running}
use Rattle.protocol.specs.Machine.{Setup, State, Outcome, step, any, is_use, is_record, covers, lock_ceiling, cell_of, tick_of}
use Rattle.protocol.specs.Lines.{Event, Started, Line, accepted, is_wait}
use Rattle.protocol.specs.Answers.{BlockedBy, Asks, asking, caller, Holds, Accepted}
use Rattle.protocol.proofs.Lists.{has_any, any_has}
use Rattle.protocol.proofs.Places.{runs}
use Rattle.protocol.proofs.Steps.{Step, step_is}
use Rattle.protocol.proofs.Outcomes.{use_planned, blocks_true, blocks_false}
use Rattle.protocol.proofs.Invariant.{blocked_by_lower}
use Rattle.protocol.proofs.Reached.{kept}
use Rattle.protocol.proofs.Counts.{in_budget}

-- uses with the same numbers are the same
same_use : (u v : Use) → u.task ≡ v.task → u.object ≡ v.object → u.mode ≡ v.mode → u ≡ v
same_use u v task object mode = λ i. record { task = task i; object = object i; mode = mode i }

module _ (setup : Setup) (s : State) where
  -- ---- who asked

  -- the running task, of all calls but an arrive and a tick
  caller_runs : (c : Call) (o : Outcome) → Step setup s c o → (task : ℕ) → caller c ≡ Some task → accepted o.answer ≡ true → running s.tasks ≡ Some task
  caller_runs c o (Step.refuses _ why) task e t = absurd (false≢true t)
  caller_runs c o (Step.arrives i there rest) task e t = let z : ◌≡◌ {A = ℕ} 0 1 = cc in absurd (omega arith)
  caller_runs c o (Step.waits i object mode h b run is_planned not_held held own by) task e t = run ∙ e
  caller_runs c o (Step.grants i object mode run is_planned not_held free room) task e t = run ∙ e
  caller_runs c o (Step.reads i object part run may) task e t = run ∙ e
  caller_runs c o (Step.writes i object part value run may room) task e t = run ∙ e
  caller_runs c o (Step.closes i run) task e t = run ∙ e
  caller_runs c o (Step.drops i run) task e t = run ∙ e
  caller_runs c o (Step.ticks j run less) task e t = let z : ◌≡◌ {A = ℕ} 0 1 = cc in absurd (omega arith)
  caller_runs c o (Step.idles nobody) task e t = let z : ◌≡◌ {A = ℕ} 0 1 = cc in absurd (omega arith)

  -- a resting task of the plan, of an arrive
  arriver_rests : (task : ℕ) (o : Outcome) → Step setup s (Arrive task) o → accepted o.answer ≡ true → (task < length setup.plan.rows) × (standing_at s.tasks task ≡ Resting)
  arriver_rests task o (Step.refuses _ why) t = absurd (false≢true t)
  arriver_rests task o (Step.arrives _ there rest) t = (there, rest)

  -- ---- locks

  -- what is asked for is a use of the plan, and is not held
  asks : (u : Use) → running s.tasks ≡ Some u.task → any (is_use u.task u.object u.mode) setup.plan.uses ≡ true → any (is_record u.task u.object u.mode) s.locks ≡ false → Asks setup s u
  asks u run is_planned not_held =
      let plan = use_planned setup u.task u.object u.mode is_planned in
      record {
        listed = subst (ContainsAt setup.plan.uses) (same_use plan.entry u plan.of_task plan.of_object plan.of_mode) plan.listed;
        runs = run;
        not_held = λ r i task object mode. both_ways (any (is_record u.task u.object u.mode) s.locks) not_held (any_has (is_record u.task u.object u.mode) s.locks r i (and_from _ _ (eq-eqb r.task u.task task) (and_from _ _ (eq-eqb r.object u.object object) (eq-eqb r.mode u.mode mode))));
      }

  -- of a lock that is granted, and of one to wait for
  locker_asks : (u : Use) (o : Outcome) → Step setup s (asking u) o → accepted o.answer ≡ true → Asks setup s u
  locker_asks u o (Step.refuses _ why) t = absurd (false≢true t)
  locker_asks u o (Step.waits _ _ _ h b run is_planned not_held held own by) t = asks u run is_planned not_held
  locker_asks u o (Step.grants _ _ _ run is_planned not_held free room) t = asks u run is_planned not_held

  -- nothing blocks an asker whose lock is granted
  granted_free : (u : Use) (o : Outcome) → Step setup s (asking u) o → o.answer ≡ Granted → ((b : LockRecord) → ContainsAt s.locks b → (b.task ≡ u.task → ⊥) → u.task < lock_ceiling setup b) × (length s.locks < setup.lock_room)
  granted_free u o (Step.refuses _ why) e = absurd (true≢false (sym (ap accepted e)))
  granted_free u o (Step.waits _ _ _ h b run is_planned not_held held own by) e = absurd (true≢false (ap is_wait e))
  granted_free u o (Step.grants _ _ _ run is_planned not_held free room) e = (λ b i. blocks_false setup u.task b (free b i), room)

  -- ---- reads and writes

  -- the lock that is found
  holds : (mode_passes : ℕ → Bool) (task object : ℕ) → any (covers mode_passes task object) s.locks ≡ true → Holds s task object mode_passes
  holds mode_passes task object t =
      let (r, i, e) = has_any (covers mode_passes task object) s.locks t in
      let (e1, e2) = and_parts (eqb r.task task) (eqb r.object object && mode_passes r.mode) e in
      let (e3, e4) = and_parts (eqb r.object object) (mode_passes r.mode) e2 in
      record { lock = r; held = i; own = eqb-true r.task task e1; of_object = eqb-true r.object object e3; lets = e4 }

  -- lets its task read
  reader_holds : (task object part : ℕ) (o : Outcome) → Step setup s (Read task object part) o → accepted o.answer ≡ true → (o.answer ≡ Value (get_or s.cells (cell_of object part) (pos 0))) × Holds s task object (λ mode. setup.rule.reads mode part)
  reader_holds task object part o (Step.refuses _ why) t = absurd (false≢true t)
  reader_holds task object part o (Step.reads _ _ _ run may) t = (refl, holds (λ mode. setup.rule.reads mode part) task object may)

  -- or write
  writer_holds : (task object part : ℕ) (v : ℤ) (o : Outcome) → Step setup s (Write task object part v) o → accepted o.answer ≡ true → Holds s task object (λ mode. setup.rule.writes mode part) × (length s.journal < setup.journal_room)
  writer_holds task object part v o (Step.refuses _ why) t = absurd (false≢true t)
  writer_holds task object part v o (Step.writes _ _ _ _ run may room) t = (holds (λ mode. setup.rule.writes mode part) task object may, room)

  -- ---- ticks

  -- who ran
  ran_runs : (j : ℕ) (o : Outcome) → Step setup s Tick o → o.answer ≡ Ran j → (running s.tasks ≡ Some j) × ((task_at s.tasks j).used < budget_of setup.plan j)
  ran_runs j o (Step.refuses _ why) e = absurd (true≢false (sym (ap accepted e)))
  ran_runs j o (Step.ticks k run less) e = let own : k ≡ j = cc in (run ∙ ap Some own, subst (λ n. (task_at s.tasks n).used < budget_of setup.plan n) own less)
  ran_runs j o (Step.idles nobody) e = let z : ◌≡◌ {A = ℕ} 0 1 = cc in absurd (omega arith)

  -- nobody
  idle_nobody : (o : Outcome) → Step setup s Tick o → o.answer ≡ Idle → running s.tasks ≡ None
  idle_nobody o (Step.refuses _ why) e = absurd (true≢false (sym (ap accepted e)))
  idle_nobody o (Step.ticks k run less) e = let z : ◌≡◌ {A = ℕ} 0 1 = cc in absurd (omega arith)
  idle_nobody o (Step.idles nobody) e = nobody

  -- a running task whose budget is spent
  tick_spent : (o : Option ℕ) → running s.tasks ≡ o → (why : Refusal) → (tick_of setup s o).answer ≡ Refused why → (j : ℕ) × (running s.tasks ≡ Some j) × (budget_of setup.plan j ≤ (task_at s.tasks j).used)
  tick_spent None run why e = absurd (true≢false (ap accepted e))
  tick_spent (Some j) run why e = (j, run, spent (cases_Bool (ltb (task_at s.tasks j).used (budget_of setup.plan j))))
    where
      spent : (ltb (task_at s.tasks j).used (budget_of setup.plan j) ≡ true) ⊎ (ltb (task_at s.tasks j).used (budget_of setup.plan j) ≡ false) → budget_of setup.plan j ≤ (task_at s.tasks j).used
      spent (inl t) = absurd (true≢false (sym (ap (λ (x : Outcome). accepted x.answer) (cond-true (ltb (task_at s.tasks j).used (budget_of setup.plan j)) _ _ t)) ∙ ap accepted e))
      spent (inr f) = ltb-false (task_at s.tasks j).used (budget_of setup.plan j) f

module _ (setup : Setup) (cells : List ℤ) (start s : State) (line : List Event) (made : Started setup cells start) (line_to : Line setup start line s) where
  -- whoever is to be waited for is lower, and blocks the asker
  wait_blocked : (u : Use) (h : ℕ) (o : Outcome) → Step setup s (asking u) o → o.answer ≡ Wait h → (u.task < h) × BlockedBy setup s u.task h
  wait_blocked u h o (Step.refuses _ why) e = absurd (true≢false (sym (ap accepted e)))
  wait_blocked u h o (Step.waits _ _ _ g b run is_planned not_held held own by) e =
      let blocking = blocks_true setup u.task b by in
      let lower = (blocked_by_lower (kept setup cells start s line made line_to).sound u.task b (runs s.tasks u.task run) held blocking.other blocking.reaches).lower in
      let same : g ≡ h = cc in
      (omega arith, record { lock = b; held = held; own = own ∙ same; reaches = blocking.reaches })
  wait_blocked u h o (Step.grants _ _ _ run is_planned not_held free room) e = absurd (true≢false (sym (ap is_wait e)))

  -- all that the next answer tells
  pub accepted_tells : Accepted setup s
  accepted_tells = record {
    caller_runs = λ c task. caller_runs setup s c (step setup s c) (step_is setup s c) task;
    arriver_rests = λ task. arriver_rests setup s task _ (step_is setup s (Arrive task));
    locker_asks = λ u. locker_asks setup s u _ (step_is setup s (asking u));
    granted_free = λ u. granted_free setup s u _ (step_is setup s (asking u));
    wait_blocked = λ u h. wait_blocked u h _ (step_is setup s (asking u));
    reader_holds = λ task object part. reader_holds setup s task object part _ (step_is setup s (Read task object part));
    writer_holds = λ task object part v. writer_holds setup s task object part v _ (step_is setup s (Write task object part v));
    ran_runs = λ j. ran_runs setup s j _ (step_is setup s Tick);
    idle_nobody = idle_nobody setup s _ (step_is setup s Tick);
    tick_spent = λ why e.
        let (j, run, spent) = tick_spent setup s (running s.tasks) refl why e in
        (j, run, omega (arith, in_budget setup cells start s line made line_to j));
  }
