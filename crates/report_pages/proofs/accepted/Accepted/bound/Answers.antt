-- The reason is a use of the plan.
use Rattle.report_pages.specs.Accepted.{rule_of, plan_of}
use Rattle.report_pages.proofs.Known.{reason_there}
use Rattle.report_pages.proofs.accepted.Accepted.bound.Goals as goal

pub returns-clause-there : goal.returns-clause-there
returns-clause-there c =
    let accepted = c.args.self.now in
    reason_there (rule_of accepted) (plan_of accepted) c.args.task c.unwrap.result.value c.unwrap.result.reason accepted.limits (rw c.unwrap.ensures at c.bound.ensures.law)
