-- An accepted plan keeps its limits.
use Rattle.plans.specs.Plans.{contents}
use Rattle.charts.proofs.planned.Planned.read.Goals as goal

pub of-requires : goal.of-requires
of-requires g c = let read = c.in_ok-plan.ensures in ((read.law (contents c.in_ok-plan.plan) c.in_ok-plan.rest.now).0 read.answer).1
