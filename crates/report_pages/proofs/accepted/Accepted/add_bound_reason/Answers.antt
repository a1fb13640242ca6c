-- The parts of the line, one after the other.
use Rattle.std.proofs.lemmas.Result.{on_ok_weaker}
use Rattle.report_pages.proofs.Sinks.{then}
use Rattle.report_pages.proofs.accepted.Accepted.add_bound_reason.Goals as goal

pub returns-in_ok-add_count-in-Some-4 : goal.returns-in_ok-add_count-in-Some-4
returns-in_ok-add_count-in-Some-4 g c =
    let joins = g.met.S.Sink.joins in
    let ceiling = rw (c.ceiling-ceiling.ensures.value, c.from.ensures, c.from-in-Some.ensures) at c.in_ok-add_count-in-Some-4.ensures in
    rw c.in-Some.is (on_ok_weaker c.add.result (λ end. then joins c.in_ok-add_count-in-Some.ensures (then joins c.in_ok-add_count-in-Some-2.ensures (then joins c.in_ok-add_count-in-Some-3.ensures (then joins ceiling end)))) c.add.ensures)

pub returns-in-None : goal.returns-in-None
returns-in-None g c = rw c.in-None.is c.add-in-None.ensures
