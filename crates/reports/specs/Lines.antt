-- The line that a report has for an input that is refused. Assumes nothing.
use Rattle.std.specs.Prelude.{◌≡◌, ℕ, cond, List, ◌++◌, length, drop, IfErr, codes, decimal, ◌==◌, slice_index}
use Rattle.rules.specs.Meaning.{exclusive}
use Rattle.rules.specs.Meaning.{read_write}
use Rattle.plans.specs.Reading.{read_whole}
use Rattle.plans.specs.Refusals.{number_of}
use Rattle.plans.specs.declared.refusal.Refusal.{Refusal}
use Rattle.plans.specs.declared.refusal.Refusal.TheVariants.{NumberNotThere}

-- the text is one line with the refusal's number, and then some words of explanation
abbrev pub RefusalLine : Refusal → List ℕ → Type 0
RefusalLine why text = (words : List ℕ) × (text ≡ codes "refused " ++ (decimal (number_of why) ++ (codes ": " ++ (words ++ codes "\n"))))

-- what is printed under the rule with this number: where the rule or the plan is refused, the line that says so
abbrev pub ToldUnder : ℕ → List ℕ → List ℕ → Type 0
ToldUnder number plan text =
    cond (number == 1) (IfErr (read_whole exclusive plan) (λ why. RefusalLine why text))
    (cond (number == 2) (IfErr (read_whole read_write plan) (λ why. RefusalLine why text))
    (RefusalLine NumberNotThere text))

-- the input is the rule's number and then the plan; without a number there is no such rule
abbrev pub Told : List ℕ → List ℕ → Type 0
Told input text = cond (length input == 0) (RefusalLine NumberNotThere text) (ToldUnder (slice_index input 0) (drop 1 input) text)
