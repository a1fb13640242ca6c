-- What the program plays: a rule byte, and then the input. Assumes nothing.
use Rattle.std.specs.Prelude.{ℕ, cond, List, length, drop, pos, Err, Result, ◌==◌, slice_index}
use Rattle.plans.specs.declared.refusal.Refusal.{Refusal}
use Rattle.plans.specs.declared.refusal.Refusal.TheVariants.{NumberNotThere}
use Rattle.player.specs.Numbered.{play_numbered}

-- without a rule byte there is no such rule
abbrev pub play_bytes : List ℕ → ℕ → Result (List ℕ) Refusal
play_bytes bytes room = cond (length bytes == 0) (Err NumberNotThere) (play_numbered (pos (slice_index bytes 0)) (drop 1 bytes) room)
