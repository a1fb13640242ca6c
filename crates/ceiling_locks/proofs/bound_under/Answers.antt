-- A refusal is the answer, whatever is asked.
use Rattle.std.proofs.Common.{rules}
use Rattle.plans.specs.Answers.{bound_answer}
use Rattle.ceiling_locks.specs.Numbers.{asked, and_then, bound_value}
use Rattle.ceiling_locks.proofs.bound_under.Goals as goal

pub returns-in_err-rule : goal.returns-in_err-rule
returns-in_err-rule c = search (rules, c.in_err-rule.ensures (λ m p. and_then (asked c.args.task) (λ k. bound_value (bound_answer m p k))))
