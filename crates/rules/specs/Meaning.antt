-- What a lock rule means, and the law that it keeps. Assumes nothing.
use Rattle.std.specs.Prelude.{◌≡◌, ℕ, ◌<◌, ◌≤◌, Bool, true, false, ◌&&◌, ◌||◌, ◌==◌, nat_lt}

-- a rule's answers: how many modes it has, which parts of an object each mode reads and writes, and which modes clash
pub record Meaning : Type 0 where
  -- the modes are numbered from 0, and there are this many
  pub modes : ℕ
  -- a mode, then a part
  pub reads : ℕ → ℕ → Bool
  pub writes : ℕ → ℕ → Bool
  -- the mode held by one task, then the mode wanted by another; the order counts
  pub clashes : ℕ → ℕ → Bool

-- a mode touches a part if it reads or writes it
abbrev pub touches : Meaning → ℕ → ℕ → Bool
touches m mode part = m.reads mode part || m.writes mode part

-- what every rule owes
pub record Lawful (m : Meaning) : Type 0 where
  -- there are 1 to 8 modes
  pub some_mode : 1 ≤ m.modes
  pub few_modes : m.modes ≤ 8
  -- a mode at or above the count touches no part, and clashes with nothing
  pub no_part : (mode part : ℕ) → m.modes ≤ mode → touches m mode part ≡ false
  pub no_clash_held : (held wanted : ℕ) → m.modes ≤ held → m.clashes held wanted ≡ false
  pub no_clash_wanted : (held wanted : ℕ) → m.modes ≤ wanted → m.clashes held wanted ≡ false
  -- an object has the parts 0 to 3, so no mode touches any other
  pub four_parts : (mode part : ℕ) → 4 ≤ part → touches m mode part ≡ false
  -- the law: where held and wanted do not clash, neither writes a part that the other touches
  pub held_apart : (held wanted part : ℕ) → held < m.modes → wanted < m.modes → m.clashes held wanted ≡ false → m.writes held part ≡ true → touches m wanted part ≡ false
  pub wanted_apart : (held wanted part : ℕ) → held < m.modes → wanted < m.modes → m.clashes held wanted ≡ false → m.writes wanted part ≡ true → touches m held part ≡ false

-- the parts of an object
abbrev pub is_part : ℕ → Bool
is_part part = nat_lt part 4

-- exclusive: mode 0 reads and writes all parts, and clashes with itself
abbrev pub exclusive : Meaning
exclusive = record {
  modes = 1;
  reads = λ mode part. (mode == 0) && is_part part;
  writes = λ mode part. (mode == 0) && is_part part;
  clashes = λ held wanted. (held == 0) && (wanted == 0);
}

-- read/write: mode 0 reads all parts, mode 1 reads and writes all parts, and only two readers do not clash
abbrev pub read_write : Meaning
read_write = record {
  modes = 2;
  reads = λ mode part. nat_lt mode 2 && is_part part;
  writes = λ mode part. (mode == 1) && is_part part;
  clashes = λ held wanted. (nat_lt held 2 && nat_lt wanted 2) && (held == 1 || wanted == 1);
}
