-- The lines of the tasks so far were added.
use Rattle.pages.specs.Pages.{numbered_lines}
use Rattle.report_pages.specs.Accepted.{rule_of, plan_of}
use Rattle.report_pages.specs.Reports.{bound_line}
use Rattle.report_pages.proofs.accepted.Accepted.add_bounds.Given as goal

abbrev pub invariant-loop-task : goal.invariant-loop-task
invariant-loop-task g l = g.S.Sink.adds l.initial.sink (numbered_lines l.task (bound_line (rule_of l.self) (plan_of l.self))) l.sink
