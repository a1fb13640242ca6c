-- The lines so far were added.
use Rattle.pages.specs.Pages.{numbered_lines}
use Rattle.report_pages.specs.Accepted.{rule_of, plan_of}
use Rattle.report_pages.specs.Reports.{ceiling_line}
use Rattle.report_pages.proofs.accepted.Accepted.add_ceilings.Given as goal

abbrev pub invariant-loop-mode : goal.invariant-loop-mode
invariant-loop-mode g l = g.S.Sink.adds l.initial.sink (numbered_lines l.mode (ceiling_line (rule_of l.self) (plan_of l.self).uses l.object)) l.sink

abbrev pub invariant-loop-object : goal.invariant-loop-object
invariant-loop-object g l =
    g.S.Sink.adds l.initial.sink (numbered_lines l.object (λ object. numbered_lines (rule_of l.self).modes (ceiling_line (rule_of l.self) (plan_of l.self).uses object))) l.sink
