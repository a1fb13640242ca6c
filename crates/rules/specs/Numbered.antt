-- The rules by their numbers. Assumes nothing.
use Rattle.std.specs.Prelude.{◌≡◌, ℕ, Bool, false, cond, ℤ, pos, negsuc, Some, None, Option, Result, MatchResult, ◌==◌}
use Rattle.rules.specs.Meaning.{Meaning, exclusive, read_write}
use Rattle.rules.specs.declared.numbered.NumberedRule.{NumberedRule}
use Rattle.rules.specs.declared.numbered.NumberedRule.TheVariants.{Exclusive, ReadWrite}
use Rattle.rules.specs.declared.numbered.UnknownRule.{UnknownRule}

abbrev pub is_number : ℕ → ℤ → Bool
is_number k (pos n) = n == k
is_number k (negsuc n) = false

-- 1 is exclusive, 2 is read/write
abbrev pub numbered : ℤ → Option Meaning
numbered rule = cond (is_number 1 rule) (Some exclusive) (cond (is_number 2 rule) (Some read_write) None)

abbrev pub meaning_of : NumberedRule → Meaning
meaning_of Exclusive = exclusive
meaning_of ReadWrite = read_write

-- the result is the rule with this number, or an error where no rule has it
abbrev pub Numbers : ℤ → Result NumberedRule UnknownRule → Type 0
Numbers n r = MatchResult r (λ rule. numbered n ≡ Some (meaning_of rule)) (λ _. numbered n ≡ None)
