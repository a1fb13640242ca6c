-- A stack as its callers see it. Assumes nothing.
use Rattle.std.specs.Prelude.{ℕ, List}

-- the records in use, the oldest first, and how many there are slots for
pub record Stacked (T : Type 0) : Type 0 where
  pub records : List T
  pub slots : ℕ
