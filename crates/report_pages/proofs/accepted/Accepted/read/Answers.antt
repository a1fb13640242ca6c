-- A number that no rule has is refused, and a plan that was read keeps its limits.
use Rattle.std.proofs.Common.{◌≡◌, rules}
use Rattle.plans.specs.declared.refusal.Refusal.TheVariants.{NumberNotThere}
use Rattle.report_pages.specs.Reports.{report_text, refused_text}
use Rattle.report_pages.proofs.Known.{told_as_err}
use Rattle.report_pages.proofs.accepted.Accepted.read.Goals as goal

pub returns-in_err-rule : goal.returns-in_err-rule
returns-in_err-rule c =
    let refused : report_text c.args.input.now ≡ refused_text NumberNotThere = search rules in
    told_as_err _ (report_text c.args.input.now) c.from_residual.result c.from_residual.ensures.1 refused

pub invariant_of-result : goal.invariant_of-result
invariant_of-result c = record { limits = ((c.in_ok-plan.ensures.law _).0 c.in_ok-plan.ensures.answer).1 }
