-- What the functions for C answer, as numbers. Assumes nothing.
use Rattle.std.specs.Prelude.{◌≡◌, ℕ, List, ℤ, pos, negsuc, neg_ℤ, Some, None, Ok, Err, Option, Result, MatchResult}
use Rattle.rules.specs.Meaning.{Meaning}
use Rattle.rules.specs.Numbered.{numbered, meaning_of}
use Rattle.rules.specs.declared.numbered.NumberedRule.{NumberedRule}
use Rattle.plans.specs.Answers.{ceiling_answer, bound_answer}
use Rattle.plans.specs.Contents.{Contents}
use Rattle.plans.specs.Reading.{read_whole}
use Rattle.plans.specs.Refusals.{number_of}
use Rattle.plans.specs.Plans.{contents}
use Rattle.plans.specs.declared.plan.Plan.{Plan}
use Rattle.plans.specs.declared.ceilings.Bound.{Bound}
use Rattle.plans.specs.declared.ceilings.Ceiling.{Ceiling}
use Rattle.plans.specs.declared.refusal.Refusal.{Refusal}
use Rattle.plans.specs.declared.refusal.Refusal.TheVariants.{NumberNotThere}
use Rattle.player.specs.Playing.{Plays}

-- an answer is a number that is not negative; a refusal is minus its number
abbrev pub in_numbers : Result ℕ Refusal → ℤ
in_numbers (Ok n) = pos n
in_numbers (Err why) = neg_ℤ (pos (number_of why))

-- what was answered goes on, a refusal stays
abbrev pub and_then : {A B : Type 0} → Result A Refusal → (A → Result B Refusal) → Result B Refusal
and_then (Ok x) next = next x
and_then (Err why) next = Err why

-- a negative number is not there
abbrev pub asked : ℤ → Result ℕ Refusal
asked (pos n) = Ok n
asked (negsuc n) = Err NumberNotThere

-- under the rule with this number, if there is one
abbrev pub by_rule : {A : Type 0} → Option Meaning → (Meaning → Result A Refusal) → Result A Refusal
by_rule (Some m) f = f m
by_rule None f = Err NumberNotThere

abbrev pub under : {A : Type 0} → ℤ → (Meaning → Result A Refusal) → Result A Refusal
under rule f = by_rule (numbered rule) f

-- the rule with this number, and the plan that is accepted under it; a refusal is the answer whatever is asked of them
abbrev pub Accepts : ℤ → List ℕ → Result (NumberedRule × Plan) Refusal → Type 0
Accepts rule plan result =
    MatchResult result (λ a. (numbered rule ≡ Some (meaning_of a.0)) × (read_whole (meaning_of a.0) plan ≡ Ok (contents a.1)))
    (λ why. (ask : Meaning → Contents → Result ℕ Refusal) → under rule (λ m. and_then (read_whole m plan) (ask m)) ≡ Err why)

-- 0 where the plan is accepted
abbrev pub check_under : List ℕ → Meaning → Result ℕ Refusal
check_under plan m = and_then (read_whole m plan) (λ _. Ok 0)

abbrev pub ceiling_value : Result Ceiling Refusal → Result ℕ Refusal
ceiling_value (Ok c) = Ok c.value
ceiling_value (Err why) = Err why

-- the ceiling of an object in a mode: the plan is checked first, then the two numbers
abbrev pub ceiling_under : List ℕ → ℤ → ℤ → Meaning → Result ℕ Refusal
ceiling_under plan object mode m = and_then (read_whole m plan) (λ p. and_then (asked object) (λ o. and_then (asked mode) (λ k. ceiling_value (ceiling_answer m p o k))))

abbrev pub bound_value : Result Bound Refusal → Result ℕ Refusal
bound_value (Ok b) = Ok b.value
bound_value (Err why) = Err why

-- the bound of a task: the plan is checked first, then the number
abbrev pub bound_under : List ℕ → ℤ → Meaning → Result ℕ Refusal
bound_under plan task m = and_then (read_whole m plan) (λ p. and_then (asked task) (λ k. bound_value (bound_answer m p k)))

-- a play that comes out in numbers: the bytes written, with what the sheet then holds, or minus the refusal's number, and the sheet as it was
abbrev pub PlaysInNumbers : Result (List ℕ) Refusal → List ℕ → List ℕ → ℤ → Type 0
PlaysInNumbers played before after n = (r : Result ℕ Refusal) × Plays played before after r × (n ≡ in_numbers r)
