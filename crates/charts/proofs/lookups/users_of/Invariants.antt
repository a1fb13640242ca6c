use Rattle.std.proofs.Common.{◌≡◌, ℕ, length, take}
use Rattle.std.specs.List.{All}
use Rattle.charts.specs.Users.{entry, highest_user}
use Rattle.charts.proofs.lookups.users_of.Given as goal

-- the highest users among the uses so far, in a table that keeps its size
abbrev pub invariant-loop-u : goal.invariant-loop-u
invariant-loop-u l = record {
  long : length l.users ≡ 32;
  rows : All (λ row. length row ≡ 8) l.users;
  each : (object mode : ℕ) → entry l.users object mode ≡ highest_user (take l.u-index l.uses) object mode;
}
