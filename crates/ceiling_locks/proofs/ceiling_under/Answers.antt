-- A refusal is the answer, whatever is asked.
use Rattle.std.proofs.Common.{rules}
use Rattle.plans.specs.Answers.{ceiling_answer}
use Rattle.ceiling_locks.specs.Numbers.{asked, and_then, ceiling_value}
use Rattle.ceiling_locks.proofs.ceiling_under.Goals as goal

pub returns-in_err-rule : goal.returns-in_err-rule
returns-in_err-rule c = search (rules, c.in_err-rule.ensures (λ m p. and_then (asked c.args.object) (λ o. and_then (asked c.args.mode) (λ k. ceiling_value (ceiling_answer m p o k)))))
