-- The parts of the line, one after the other.
use Rattle.std.proofs.lemmas.Result.{on_ok_weaker}
use Rattle.report_pages.proofs.Sinks.{then}
use Rattle.report_pages.proofs.reports.add_ceiling_reason.Goals as goal

pub returns-in_ok-add_count-in-Some-2 : goal.returns-in_ok-add_count-in-Some-2
returns-in_ok-add_count-in-Some-2 g c =
    let joins = g.met.S.Sink.joins in
    rw c.in-Some.is (on_ok_weaker c.add.result (λ end. then joins c.in_ok-add_count-in-Some.ensures (then joins c.in_ok-add_count-in-Some-2.ensures end)) c.add.ensures)

pub returns-in-None : goal.returns-in-None
returns-in-None g c = rw c.in-None.is c.add-in-None.ensures
