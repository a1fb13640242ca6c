-- Playing under the rule with a number. Assumes nothing.
use Rattle.std.specs.Prelude.{◌≡◌, ℕ, List, ℤ, Some, None, Err, Option, Result}
use Rattle.rules.specs.Meaning.{Meaning}
use Rattle.rules.specs.Numbered.{numbered}
use Rattle.plans.specs.declared.refusal.Refusal.{Refusal}
use Rattle.plans.specs.declared.refusal.Refusal.TheVariants.{NumberNotThere}
use Rattle.player.specs.Playing.{play_input, PlayLaws}

abbrev pub play_under : Option Meaning → List ℕ → ℕ → Result (List ℕ) Refusal
play_under (Some m) input room = play_input m input room
play_under None input room = Err NumberNotThere

-- the rule's number is checked before all else
abbrev pub play_numbered : ℤ → List ℕ → ℕ → Result (List ℕ) Refusal
play_numbered rule input room = play_under (numbered rule) input room

-- all of the laws hold of the line of calls that the tape makes under the rule with this number
abbrev pub NumberedLaws : ℤ → List ℕ → Type 0
NumberedLaws rule input = (m : Meaning) → numbered rule ≡ Some m → PlayLaws m input
