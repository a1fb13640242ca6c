-- What a call can come to: one constructor for each outcome, with plain facts, and the lemma that every call is one of them.
use Rattle.std.proofs.Common.{◌≡◌, ℕ, ◌<◌, Bool, true, false, cond, not, ◌&&◌, ltb, ◌⊎◌, List, [], ◌∷◌, ◌++◌, length, get_or, set, ℤ, pos, Some, None, filter, Option, sym, refl, ap, ◌∙◌, inl, inr, arith}
use Rattle.std.specs.List.{ContainsAt}
use Rattle.std.proofs.lemmas.Bool.{cond_both, false≢true, not-false, eqb-true, ltb-true}
use Rattle.rules.specs.Meaning.{is_part}
use Rattle.plans.specs.Contents.{budget_of}
use Rattle.plans.specs.declared.refusal.Refusal.{Refusal}
use Rattle.plans.specs.declared.refusal.Refusal.TheVariants.{FewCells, NumberNotThere, AlreadyOpen, NotRunning, NoSuchUse, AlreadyHeld, LocksFull, NotCovered, JournalFull, BudgetSpent}
use Rattle.protocol.specs.declared.words.Standing.{Standing}
use Rattle.protocol.specs.declared.words.Standing.TheVariants.{Resting, Ready, Waiting}
use Rattle.protocol.specs.declared.words.LockRecord.{LockRecord}
use Rattle.protocol.specs.declared.words.Call.{Call}
use Rattle.protocol.specs.declared.words.Call.TheVariants.{Arrive, Lock, Read, Write, Close, Drop, Tick}
use Rattle.protocol.specs.declared.words.Answer.TheVariants.{Open, Granted, Wait, Value, Written, Closed, Dropped, Ran, Idle}
use Rattle.protocol.specs.Tasks.{task_at, standing_at, is_open, running}
use Rattle.protocol.specs.Machine.{Setup, State, Outcome, refuse, any, names, has_task, has_object, has_mode, few_cells, is_running, is_use, is_record, may_read, may_write, change, stand, arrived, blocks, newest_task, or_else, cell_of, put_back, own_image, ended, account_of, tick_from, wait_or_grant, tick_of, step}
use Rattle.protocol.proofs.Lists.{has_none, has_here, has_there, has_cases}

-- ---- what the checks tell

-- a task that is not open rests
pub rests_is : (s : Standing) → is_open s ≡ false → s ≡ Resting
rests_is Resting e = refl
rests_is Ready e = absurd (false≢true (sym e))
rests_is (Waiting h) e = absurd (false≢true (sym e))

-- the task that is named
pub named : (task : ℕ) (o : Option ℕ) → names task o ≡ true → o ≡ Some task
named task None e = absurd (false≢true e)
named task (Some j) e = ap Some (eqb-true j task e)

-- the first of two, where it is there, else the second
or_else_some : (o : Option ℕ) (x : Bool) (task h : ℕ) → or_else o (cond x (Some task) None) ≡ Some h → (o ≡ Some h) ⊎ ((x ≡ true) × (task ≡ h))
or_else_some None true task h e = let own : task ≡ h = cc in inr (refl, own)
or_else_some None false task h e = let z : ◌≡◌ {A = ℕ} 0 1 = cc in absurd (omega arith)
or_else_some (Some g) x task h e = inl e

-- neither
or_else_none : (o : Option ℕ) (x : Bool) (task : ℕ) → or_else o (cond x (Some task) None) ≡ None → (o ≡ None) × (x ≡ false)
or_else_none None true task e = let z : ◌≡◌ {A = ℕ} 0 1 = cc in absurd (omega arith)
or_else_none None false task e = (refl, refl)
or_else_none (Some g) x task e = let z : ◌≡◌ {A = ℕ} 0 1 = cc in absurd (omega arith)

-- where there is a newest record that passes, one does, and it is that task's
pub newest_some : (p : LockRecord → Bool) (rs : List LockRecord) (h : ℕ) → newest_task p rs ≡ Some h → (b : LockRecord) × ContainsAt rs b × (b.task ≡ h) × (p b ≡ true)
newest_some p [] h e = let z : ◌≡◌ {A = ℕ} 0 1 = cc in absurd (omega arith)
newest_some p (r ∷ rs) h e = elim (or_else_some (newest_task p rs) (p r) r.task h e) [
  | inl n ↦ (let (b, i, own, t) = newest_some p rs h n in (b, has_there r rs b i, own, t))
  | inr n ↦ (r, has_here r rs, n.1, n.0)
]

-- where there is none, none passes
pub newest_none : (p : LockRecord → Bool) (rs : List LockRecord) → newest_task p rs ≡ None → (r : LockRecord) → ContainsAt rs r → p r ≡ false
newest_none p [] e r i = absurd (has_none r i)
newest_none p (r ∷ rs) e x i =
    let n = or_else_none (newest_task p rs) (p r) r.task e in
    elim (has_cases r rs x i) [ inl same ↦ ap p (sym same) ∙ n.1 | inr j ↦ newest_none p rs n.0 x j ]

-- ---- the outcomes

-- what a call on s answers and leaves
pub data Step (setup : Setup) (s : State) : Call → Outcome → Type 0 where
  refuses : (c : Call) (why : Refusal) → Step setup s c (refuse s why)
  arrives : (task : ℕ) → task < length setup.plan.rows → standing_at s.tasks task ≡ Resting →
      Step setup s (Arrive task) (record { answer = Open; left = record { tasks = change (λ _. arrived) s.tasks task; locks = s.locks; journal = s.journal; cells = s.cells } })
  -- the caller is blocked by the lock b of task h
  waits : (task object mode h : ℕ) (b : LockRecord) → running s.tasks ≡ Some task → any (is_use task object mode) setup.plan.uses ≡ true → any (is_record task object mode) s.locks ≡ false → ContainsAt s.locks b → b.task ≡ h → blocks setup task b ≡ true →
      Step setup s (Lock task object mode) (record { answer = Wait h; left = record { tasks = change (stand (Waiting h)) s.tasks task; locks = s.locks; journal = s.journal; cells = s.cells } })
  -- no lock blocks the caller
  grants : (task object mode : ℕ) → running s.tasks ≡ Some task → any (is_use task object mode) setup.plan.uses ≡ true → any (is_record task object mode) s.locks ≡ false → ((b : LockRecord) → ContainsAt s.locks b → blocks setup task b ≡ false) → length s.locks < setup.lock_room →
      Step setup s (Lock task object mode) (record { answer = Granted; left = record { tasks = s.tasks; locks = s.locks ++ (record { task = task; object = object; mode = mode } ∷ []); journal = s.journal; cells = s.cells } })
  reads : (task object part : ℕ) → running s.tasks ≡ Some task → may_read setup s task object part ≡ true →
      Step setup s (Read task object part) (record { answer = Value (get_or s.cells (cell_of object part) (pos 0)); left = s })
  writes : (task object part : ℕ) (value : ℤ) → running s.tasks ≡ Some task → may_write setup s task object part ≡ true → length s.journal < setup.journal_room →
      Step setup s (Write task object part value) (record { answer = Written; left = record { tasks = s.tasks; locks = s.locks; journal = s.journal ++ (record { task = task; cell = cell_of object part; old = get_or s.cells (cell_of object part) (pos 0) } ∷ []); cells = set s.cells (cell_of object part) value } })
  closes : (task : ℕ) → running s.tasks ≡ Some task →
      Step setup s (Close task) (record { answer = Closed (account_of s task); left = ended s task s.cells })
  drops : (task : ℕ) → running s.tasks ≡ Some task →
      Step setup s (Drop task) (record { answer = Dropped (account_of s task); left = ended s task (put_back (filter (own_image task) s.journal) s.cells) })
  ticks : (j : ℕ) → running s.tasks ≡ Some j → (task_at s.tasks j).used < budget_of setup.plan j →
      Step setup s Tick (record { answer = Ran j; left = record { tasks = tick_from j 0 s.tasks; locks = s.locks; journal = s.journal; cells = s.cells } })
  idles : running s.tasks ≡ None → Step setup s Tick (record { answer = Idle; left = s })

-- a check that refuses when it fails
checked : (setup : Setup) (s : State) (c : Call) (b : Bool) (why : Refusal) (o : Outcome) → (b ≡ true → Step setup s c o) → Step setup s c (cond (not b) (refuse s why) o)
checked setup s c b why o f = cond_both (not b) (refuse s why) o (Step setup s c) (λ _. refuses c why) (λ e. f (not-false b e))

-- a check that refuses when it passes
unless : (setup : Setup) (s : State) (c : Call) (b : Bool) (why : Refusal) (o : Outcome) → (b ≡ false → Step setup s c o) → Step setup s c (cond b (refuse s why) o)
unless setup s c b why o f = cond_both b (refuse s why) o (Step setup s c) (λ _. refuses c why) f

-- a lock waits, or is granted if there is room
wait_or_grant_step : (setup : Setup) (s : State) (task object mode : ℕ) → running s.tasks ≡ Some task → any (is_use task object mode) setup.plan.uses ≡ true → any (is_record task object mode) s.locks ≡ false → (o : Option ℕ) → newest_task (blocks setup task) s.locks ≡ o → Step setup s (Lock task object mode) (wait_or_grant setup s task object mode o)
wait_or_grant_step setup s task object mode run is_planned not_held None e = cond_both (ltb (length s.locks) setup.lock_room) _ _ (Step setup s (Lock task object mode))
    (λ room. grants task object mode run is_planned not_held (newest_none (blocks setup task) s.locks e) (ltb-true (length s.locks) setup.lock_room room))
    (λ _. refuses (Lock task object mode) LocksFull)
wait_or_grant_step setup s task object mode run is_planned not_held (Some h) e = let (b, i, own, t) = newest_some (blocks setup task) s.locks h e in waits task object mode h b run is_planned not_held i own t

-- a tick, if somebody runs
tick_step : (setup : Setup) (s : State) (o : Option ℕ) → running s.tasks ≡ o → Step setup s Tick (tick_of setup s o)
tick_step setup s None e = idles e
tick_step setup s (Some j) e = cond_both (ltb (task_at s.tasks j).used (budget_of setup.plan j)) _ _ (Step setup s Tick)
    (λ l. ticks j e (ltb-true (task_at s.tasks j).used (budget_of setup.plan j) l))
    (λ _. refuses Tick BudgetSpent)

-- every call comes to one of the outcomes
pub step_is : (setup : Setup) (s : State) (c : Call) → Step setup s c (step setup s c)
step_is setup s (Arrive task) =
    checked setup s (Arrive task) (has_task setup task) NumberNotThere _ λ there.
    unless setup s (Arrive task) (is_open (standing_at s.tasks task)) AlreadyOpen _ λ rest.
    arrives task (ltb-true task (length setup.plan.rows) there) (rests_is (standing_at s.tasks task) rest)
step_is setup s (Lock task object mode) =
    checked setup s (Lock task object mode) (has_task setup task && (has_object setup object && has_mode setup mode)) NumberNotThere _ λ _.
    checked setup s (Lock task object mode) (is_running s task) NotRunning _ λ run.
    checked setup s (Lock task object mode) (any (is_use task object mode) setup.plan.uses) NoSuchUse _ λ is_planned.
    unless setup s (Lock task object mode) (any (is_record task object mode) s.locks) AlreadyHeld _ λ not_held.
    wait_or_grant_step setup s task object mode (named task (running s.tasks) run) is_planned not_held (newest_task (blocks setup task) s.locks) refl
step_is setup s (Read task object part) =
    unless setup s (Read task object part) (few_cells s) FewCells _ λ _.
    checked setup s (Read task object part) (has_task setup task && (has_object setup object && is_part part)) NumberNotThere _ λ _.
    checked setup s (Read task object part) (is_running s task) NotRunning _ λ run.
    checked setup s (Read task object part) (may_read setup s task object part) NotCovered _ λ may.
    reads task object part (named task (running s.tasks) run) may
step_is setup s (Write task object part value) =
    unless setup s (Write task object part value) (few_cells s) FewCells _ λ _.
    checked setup s (Write task object part value) (has_task setup task && (has_object setup object && is_part part)) NumberNotThere _ λ _.
    checked setup s (Write task object part value) (is_running s task) NotRunning _ λ run.
    checked setup s (Write task object part value) (may_write setup s task object part) NotCovered _ λ may.
    checked setup s (Write task object part value) (ltb (length s.journal) setup.journal_room) JournalFull _ λ room.
    writes task object part value (named task (running s.tasks) run) may (ltb-true (length s.journal) setup.journal_room room)
step_is setup s (Close task) =
    checked setup s (Close task) (has_task setup task) NumberNotThere _ λ _.
    checked setup s (Close task) (is_running s task) NotRunning _ λ run.
    closes task (named task (running s.tasks) run)
step_is setup s (Drop task) =
    unless setup s (Drop task) (few_cells s) FewCells _ λ _.
    checked setup s (Drop task) (has_task setup task) NumberNotThere _ λ _.
    checked setup s (Drop task) (is_running s task) NotRunning _ λ run.
    drops task (named task (running s.tasks) run)
step_is setup s Tick = tick_step setup s (running s.tasks) refl
