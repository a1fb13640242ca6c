-- The lines of the objects so far were added.
use Rattle.pages.specs.Pages.{numbered_lines}
use Rattle.report_pages.specs.Reports.{object_line}
use Rattle.report_pages.proofs.accepted.Accepted.add_objects.Given as goal

abbrev pub invariant-loop-number : goal.invariant-loop-number
invariant-loop-number g l = g.S.Sink.adds l.initial.sink (numbered_lines l.number (object_line l.object-items)) l.sink
