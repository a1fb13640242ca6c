-- What is written lies within the sheet, so it is no negative number. Assumes nothing.
use Rattle.std.proofs.Common.{◌≡◌, ℕ, ◌≤◌, ◌<◌, ◌^◌, List, length, ℤ, Ok, Err, Result, MatchResult, ap, ◌∙◌, arith, w64, to_z}
use Rattle.std.proofs.lemmas.Int.{to_z_pos}
use Rattle.std.proofs.lemmas.List.{length-append, length-drop}
use Rattle.plans.specs.declared.refusal.Refusal.{Refusal}
use Rattle.player.specs.Playing.{Plays}
use Rattle.ceiling_locks.specs.Numbers.{in_numbers}

within_sheet : (played : Result (List ℕ) Refusal) (before after : List ℕ) (n : ℕ) → length after ≡ length before → Plays played before after (Ok n) → n ≤ length before
within_sheet (Ok text) before after n same put = let long = simp (length-append, length-drop) at (ap length put.bytes) in omega (arith, long, put.behind)
within_sheet (Err why) before after n same never = absurd never

-- the count of what was written, as a signed number, or minus the refusal's
pub in_signed : {P : ℕ → Type 0} {Q : Refusal → Type 0} (played : Result (List ℕ) Refusal) (before after : List ℕ) (r : Result ℕ Refusal) (n : ℤ) → length after ≡ length before → length before < 2 ^ 63 → Plays played before after r →
    MatchResult r P Q → ((count : ℕ) → P count → n ≡ to_z w64 count) → ((why : Refusal) → Q why → n ≡ in_numbers (Err why)) → n ≡ in_numbers r
in_signed played before after (Ok count) n same small plays is counts refuses = counts count is ∙ to_z_pos w64 count (omega (arith, small, within_sheet played before after count same plays))
in_signed played before after (Err why) n same small plays is counts refuses = refuses why is
