-- Which cells a task may read or write by the locks that it holds: no other task touches what it may write.
use Rattle.std.proofs.Common.{◌≡◌, ℕ, ◌<◌, Bool, true, ◌&&◌, eqb, List, ℤ, sym, ap, ◌∙◌, inl, inr, arith}
use Rattle.std.specs.List.{ContainsAt}
use Rattle.std.proofs.lemmas.Bool.{both_ways, cases_lt, eqb-true, and_parts, or_left, or_right}
use Rattle.rules.specs.Meaning.{Meaning, Lawful, touches}
use Rattle.protocol.specs.declared.words.LockRecord.{LockRecord}
use Rattle.protocol.specs.Machine.{Setup, State, any, covers, cell_of}
use Rattle.protocol.specs.Lines.{Event, Started, Line}
use Rattle.protocol.proofs.Lists.{has_any}
use Rattle.protocol.proofs.Reached.{apart}

-- the task holds a lock whose mode passes for the part of this cell
pub record Reaches (passes : ℕ → ℕ → Bool) (locks : List LockRecord) (task cell : ℕ) : Type 0 where
  pub lock : LockRecord
  pub part : ℕ
  pub held : ContainsAt locks lock
  pub own : lock.task ≡ task
  pub place : cell ≡ cell_of lock.object part
  pub may : passes lock.mode part ≡ true

-- no other task touches a cell that a task may write
abbrev pub Apart : Meaning → List LockRecord → Type 0
Apart m locks = (i k cell : ℕ) → (i ≡ k → ⊥) → Reaches m.writes locks i cell → Reaches (touches m) locks k cell → ⊥

-- the lock that it needs is still there
pub reaches_more : {passes : ℕ → ℕ → Bool} {locks : List LockRecord} (more : List LockRecord) {task cell : ℕ} → Reaches passes locks task cell → ((r : LockRecord) → r.task ≡ task → ContainsAt locks r → ContainsAt more r) → Reaches passes more task cell
reaches_more more h stay = record { lock = h.lock; part = h.part; held = stay h.lock h.own h.held; own = h.own; place = h.place; may = h.may }

-- what a mode reads it touches
pub reads_touches : (m : Meaning) {locks : List LockRecord} {task cell : ℕ} → Reaches m.reads locks task cell → Reaches (touches m) locks task cell
reads_touches m h = record { lock = h.lock; part = h.part; held = h.held; own = h.own; place = h.place; may = or_left (m.reads h.lock.mode h.part) (m.writes h.lock.mode h.part) h.may }

-- what a mode writes it touches
pub writes_touches : (m : Meaning) {locks : List LockRecord} {task cell : ℕ} → Reaches m.writes locks task cell → Reaches (touches m) locks task cell
writes_touches m h = record { lock = h.lock; part = h.part; held = h.held; own = h.own; place = h.place; may = or_right (m.reads h.lock.mode h.part) (m.writes h.lock.mode h.part) h.may }

-- the check of a read or a write
pub reaches_by : (passes : ℕ → ℕ → Bool) (locks : List LockRecord) (task object part : ℕ) → any (covers (λ mode. passes mode part) task object) locks ≡ true → Reaches passes locks task (cell_of object part)
reaches_by passes locks task object part e =
    let (r, held, t) = has_any (covers (λ mode. passes mode part) task object) locks e in
    let (mine, rest) = and_parts (eqb r.task task) (eqb r.object object && passes r.mode part) t in
    let (at, may) = and_parts (eqb r.object object) (passes r.mode part) rest in
    record { lock = r; part = part; held = held; own = eqb-true r.task task mine; place = ap (λ o. cell_of o part) (sym (eqb-true r.object object at)); may = may }

-- a part that some mode touches is one of the four
touched_part : (m : Meaning) → Lawful m → {locks : List LockRecord} {task cell : ℕ} → (h : Reaches (touches m) locks task cell) → h.part < 4
touched_part m lawful h = elim (cases_lt h.part 4) [
  | inl l ↦ l
  | inr past ↦ absurd (both_ways (touches m h.lock.mode h.part) (lawful.four_parts h.lock.mode h.part past) h.may)
]

-- a cell is of one object
cell_object : (a b p q : ℕ) → p < 4 → q < 4 → cell_of a p ≡ cell_of b q → a ≡ b
cell_object a b p q hp hq e = omega arith

-- and of one part
cell_part : (a b p q : ℕ) → p < 4 → q < 4 → cell_of a p ≡ cell_of b q → p ≡ q
cell_part a b p q hp hq e = omega arith

-- wherever a line leads, no other task touches a cell that a task may write
pub line_apart : (setup : Setup) (cells : List ℤ) (start s : State) (line : List Event) → Lawful setup.rule → Started setup cells start → Line setup start line s → Apart setup.rule s.locks
unfolding writes_touches
line_apart setup cells start s line lawful made line_to i k cell other w t =
    let small = touched_part setup.rule lawful (writes_touches setup.rule w) in
    let small' = touched_part setup.rule lawful t in
    let same = sym w.place ∙ t.place in
    let object = cell_object w.lock.object t.lock.object w.part t.part small small' same in
    let part = cell_part w.lock.object t.lock.object w.part t.part small small' same in
    let no = apart setup cells start s line made line_to lawful w.lock t.lock w.held t.held (λ e. other (sym w.own ∙ (e ∙ t.own))) object w.part w.may in
    both_ways (touches setup.rule t.lock.mode t.part) (rw part at no) t.may
