-- The closed instances, run whole in the order of their closes, leave the cells that a line leaves, and answer as it did.
use Rattle.std.proofs.Common.{◌≡◌, ℕ, Bool, true, false, cond, ◌&&◌, eqb, List, [], ◌∷◌, ◌++◌, get_or, ℤ, pos, Some, sym, refl, ap, ◌∙◌, subst, inl, inr, arith}
use Rattle.std.specs.List.{ContainsAt}
use Rattle.std.proofs.lemmas.List.{append-nil}
use Rattle.std.proofs.ByRecursion.{has_append_left}
use Rattle.std.proofs.lemmas.Bool.{cond_both, cond-true, cond-false, both_ways, eq-eqb, ne_eqb, and_from, and_left, and_right}
use Rattle.rules.specs.Meaning.{Lawful}
use Rattle.plans.specs.declared.refusal.Refusal.{Refusal}
use Rattle.protocol.specs.declared.words.Standing.TheVariants.{Ready, Waiting}
use Rattle.protocol.specs.declared.words.Task.{Task}
use Rattle.protocol.specs.declared.words.LockRecord.{LockRecord}
use Rattle.protocol.specs.declared.words.Call.{Call}
use Rattle.protocol.specs.declared.words.Call.TheVariants.{Arrive, Lock, Read, Write, Close, Drop, Tick}
use Rattle.protocol.specs.declared.words.Answer.TheVariants.{Open, Refused}
use Rattle.protocol.specs.Tasks.{task_at, standing_at, is_open, running}
use Rattle.protocol.specs.Machine.{Setup, State, Outcome, change, stand, arrived, cell_of, put_back, tick_from, step, made}
use Rattle.protocol.specs.Lines.{Event, Started, Line, none, more, Deed, got, put, deeds, serial, done, Agree}
use Rattle.protocol.proofs.Places.{runs, waits_cases}
use Rattle.protocol.proofs.Steps.{Step, refuses, arrives, waits, grants, reads, writes, closes, drops, ticks, idles, step_is}
use Rattle.protocol.proofs.Moves.{changed_other, ticked_at, ticked_standing, ready_there, ended_own, ended_other}
use Rattle.protocol.proofs.Outcomes.{after_end}
use Rattle.protocol.proofs.Reached.{open_holders}
use Rattle.protocol.proofs.Cells.{replays_none}
use Rattle.protocol.proofs.Deeds.{Apart, reaches_by, line_apart}
use Rattle.protocol.proofs.Replay.{Replaying, per_task, replaying_still, replaying_arrive, replaying_read, replaying_write, replaying_close, replaying_drop}

-- the task is open
abbrev pub open_at : List Task → ℕ → Bool
open_at tasks k = is_open (standing_at tasks k)

-- ---- who was open before a call

-- one whose record stays
pub same_open : (tasks after : List Task) (k : ℕ) → task_at after k ≡ task_at tasks k → open_at after k ≡ true → open_at tasks k ≡ true
same_open tasks after k e o = ap (λ (t : Task). is_open t.standing) (sym e) ∙ o

-- the running task
pub running_open : (tasks : List Task) (j : ℕ) → running tasks ≡ Some j → open_at tasks j ≡ true
running_open tasks j run = ap is_open (runs tasks j run).ready

-- at a tick, everyone who is open after it
pub ticked_open : (tasks : List Task) (j : ℕ) → running tasks ≡ Some j → (k : ℕ) → open_at (tick_from j 0 tasks) k ≡ true → open_at tasks k ≡ true
ticked_open tasks j run k o =
    ap is_open (sym (ap (λ (t : Task). t.standing) (ticked_at j 0 tasks k k (omega arith) (λ e. rw e (ready_there tasks j (runs tasks j run).ready))) ∙ ticked_standing j k (task_at tasks k))) ∙ o

-- at a close or a drop, everyone who is open after it, and that is not the caller
pub ended_open : (tasks : List Task) (j : ℕ) → running tasks ≡ Some j → (k : ℕ) → open_at (after_end j tasks) k ≡ true → (j ≡ k → ⊥) × (open_at tasks k ≡ true)
ended_open tasks j run k o = (
  other,
  elim (waits_cases j (standing_at tasks k)) [
    | inl w ↦ ap is_open w
    | inr n ↦ same_open tasks (after_end j tasks) k (ended_other tasks j ready k (λ e. other (sym e)) n) o
  ],
)
  where
    ready : standing_at tasks j ≡ Ready
    ready = (runs tasks j run).ready

    other : j ≡ k → ⊥
    other e = both_ways (open_at (after_end j tasks) k) (subst (λ l. open_at (after_end j tasks) l ≡ false) e (ap (λ (t : Task). is_open t.standing) (ended_own tasks j ready))) o

-- ---- what a call adds to the deeds

-- deeds are added where the test passes
added : (ds new : List Deed) (b : Bool) → b ≡ true → ds ++ cond b new [] ≡ ds ++ new
added ds new b e = ap (λ l. ds ++ l) (cond-true b new [] e)

-- and none where it does not
not_added : (ds new : List Deed) (b : Bool) → b ≡ false → ds ++ cond b new [] ≡ ds
not_added ds new b e = ap (λ l. ds ++ l) (cond-false b new [] e) ∙ append-nil ds

-- a refused call adds nothing
refused_deeds : (c : Call) (why : Refusal) (line : List Event) (k : ℕ) → deeds k (record { call = c; answer = Refused why } ∷ line) ≡ deeds k line
refused_deeds (Arrive i) why line k = cond-false (eqb i k && false) [] (deeds k line ++ []) (and_right (eqb i k) false refl) ∙ append-nil (deeds k line)
refused_deeds (Lock i object mode) why line k = append-nil (deeds k line)
refused_deeds (Read i object part) why line k = cond_both (eqb i k) [] [] (λ ds. deeds k line ++ ds ≡ deeds k line) (λ e. append-nil (deeds k line)) (λ e. append-nil (deeds k line))
refused_deeds (Write i object part v) why line k = not_added (deeds k line) (put (cell_of object part) v ∷ []) (eqb i k && false) (and_right (eqb i k) false refl)
refused_deeds (Close i) why line k = append-nil (deeds k line)
refused_deeds (Drop i) why line k = append-nil (deeds k line)
refused_deeds Tick why line k = append-nil (deeds k line)

-- and no closed instance
refused_serial : (c : Call) (why : Refusal) (line : List Event) → serial (record { call = c; answer = Refused why } ∷ line) ≡ serial line
refused_serial (Arrive i) why line = append-nil (serial line)
refused_serial (Lock i object mode) why line = append-nil (serial line)
refused_serial (Read i object part) why line = append-nil (serial line)
refused_serial (Write i object part v) why line = append-nil (serial line)
refused_serial (Close i) why line = append-nil (serial line)
refused_serial (Drop i) why line = append-nil (serial line)
refused_serial Tick why line = append-nil (serial line)

-- ---- the calls

-- what every call keeps, of a line and the state that it led to
abbrev Replayed : Setup → List ℤ → List Event → State → Type 0
Replayed setup first line s = Replaying setup.rule first s.locks s.journal s.cells (open_at s.tasks) (λ k. deeds k line) (serial line)

module _ (setup : Setup) (first : List ℤ) (line : List Event) (s : State) (apart : Apart setup.rule s.locks) (holders : (r : LockRecord) → ContainsAt s.locks r → open_at s.tasks r.task ≡ true) (was : Replayed setup first line s) where
  -- a call that adds no deed and closes nothing, and takes no lock away
  still : (tasks : List Task) (locks : List LockRecord) → ((r : LockRecord) → ContainsAt s.locks r → ContainsAt locks r) → ((k : ℕ) → open_at tasks k ≡ true → open_at s.tasks k ≡ true) → Replaying setup.rule first locks s.journal s.cells (open_at tasks) (λ k. deeds k line ++ []) (serial line ++ [])
  still tasks locks stay before = rw (append-nil (serial line)) (replaying_still setup.rule first was locks (open_at tasks) (λ k. deeds k line ++ []) stay before (λ k. append-nil (deeds k line)))

  -- every outcome keeps it
  replayed_step : (c : Call) (o : Outcome) → Step setup s c o → Replayed setup first (record { call = c; answer = o.answer } ∷ line) o.left
  replayed_step c o (refuses _ why) = rw (refused_serial c why line) (replaying_still setup.rule first was s.locks (open_at s.tasks) (λ k. deeds k (record { call = c; answer = Refused why } ∷ line)) (λ r h. h) (λ k o. o) (refused_deeds c why line))
  replayed_step c o (arrives i there rests) = rw (append-nil (serial line)) (replaying_arrive setup.rule first was i (open_at (change (λ _. arrived) s.tasks i)) (λ k. deeds k (record { call = Arrive i; answer = Open } ∷ line))
      (λ cell w. both_ways (open_at s.tasks i) (ap is_open rests) (subst (λ k. open_at s.tasks k ≡ true) w.own (holders w.lock w.held)))
      (λ k d. same_open s.tasks (change (λ _. arrived) s.tasks i) k (changed_other (λ _. arrived) s.tasks i k (λ e. d (sym e))))
      (cond-true (eqb i i && true) [] (deeds i line ++ []) (and_from (eqb i i) true (eq-eqb i i refl) refl))
      (λ k d. cond-false (eqb i k && true) [] (deeds k line ++ []) (and_left (eqb i k) true (ne_eqb i k d)) ∙ append-nil (deeds k line)))
  replayed_step c o (waits i object mode h b run is_planned not_held held own t) = still (change (stand (Waiting h)) s.tasks i) s.locks (λ r g. g)
      (per_task (λ k. open_at (change (stand (Waiting h)) s.tasks i) k ≡ true → open_at s.tasks k ≡ true) i (λ _. running_open s.tasks i run)
      (λ k d. same_open s.tasks (change (stand (Waiting h)) s.tasks i) k (changed_other (stand (Waiting h)) s.tasks i k (λ e. d (sym e)))))
  replayed_step c o (grants i object mode run is_planned not_held free room) = still s.tasks (s.locks ++ (record { task = i; object = object; mode = mode } ∷ [])) (λ r. has_append_left s.locks _ r) (λ k o. o)
  replayed_step c o (reads i object part run may) =
      let cell = cell_of object part in
      let new = got cell (get_or s.cells cell (pos 0)) ∷ [] in
      rw (append-nil (serial line)) (replaying_read setup.rule first was i cell (λ k. deeds k line ++ cond (eqb i k) new [])
      (reaches_by setup.rule.reads s.locks i object part may)
      (added (deeds i line) new (eqb i i) (eq-eqb i i refl))
      (λ k d. not_added (deeds k line) new (eqb i k) (ne_eqb i k d)))
  replayed_step c o (writes i object part v run may room) =
      let cell = cell_of object part in
      let new = put cell v ∷ [] in
      rw (append-nil (serial line)) (replaying_write setup.rule first was apart i cell v (λ k. deeds k line ++ cond (eqb i k && true) new [])
      (reaches_by setup.rule.writes s.locks i object part may)
      (added (deeds i line) new (eqb i i && true) (and_from (eqb i i) true (eq-eqb i i refl) refl))
      (λ k d. not_added (deeds k line) new (eqb i k && true) (and_left (eqb i k) true (ne_eqb i k d))))
  replayed_step c o (closes i run) = replaying_close setup.rule first was apart i (open_at (after_end i s.tasks)) (λ k. deeds k line ++ []) (running_open s.tasks i run) (ended_open s.tasks i run) (λ k. append-nil (deeds k line))
  replayed_step c o (drops i run) = rw (append-nil (serial line)) (replaying_drop setup.rule first was apart i (open_at (after_end i s.tasks)) (λ k. deeds k line ++ []) (ended_open s.tasks i run) (λ k. append-nil (deeds k line)))
  replayed_step c o (ticks j run less) = still (tick_from j 0 s.tasks) s.locks (λ r h. h) (ticked_open s.tasks j run)
  replayed_step c o (idles nobody) = still s.tasks s.locks (λ r h. h) (λ k o. o)

module _ (setup : Setup) (cells : List ℤ) (start : State) (lawful : Lawful setup.rule) (begun : Started setup cells start) where
  -- so it holds wherever a line leads
  replayed_line : {line : List Event} {s : State} → Line setup start line s → Replayed setup start.cells line s
  replayed_line none = subst (λ (at : State). Replayed setup at.cells [] at) (sym begun.left) (record {
    images = tt;
    touched = λ k o. tt;
    replays = λ k o. replays_none (made setup cells).cells;
    base = refl;
    agree = tt;
  })
  replayed_line (more {line = line} {s = s} before c) =
      replayed_step setup start.cells line s (line_apart setup cells start s line lawful begun before) (open_holders setup cells start s line begun before) (replayed_line before) c (step setup s c) (step_is setup s c)

  -- the two laws of a line's closed instances
  pub serial_laws : (line : List Event) (s : State) → Line setup start line s → (put_back s.journal s.cells ≡ done (serial line) start.cells) × Agree (serial line) start.cells
  serial_laws line s to = let r = replayed_line to in (r.base, r.agree)
