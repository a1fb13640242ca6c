-- The parts of the line, one after the other.
use Rattle.std.proofs.lemmas.Result.{on_ok_weaker}
use Rattle.report_pages.proofs.Sinks.{then}
use Rattle.report_pages.proofs.reports.add_refused.Goals as goal

pub returns : goal.returns
returns g c =
    let joins = g.met.S.Sink.joins in
    let count = rw c.number.ensures at c.in_ok-add_count.ensures in
    let words = rw c.refusal_words.ensures at c.in_ok-add-2.ensures in
    on_ok_weaker c.add-3.result (λ end. then joins count (then joins c.in_ok-add.ensures (then joins words end))) c.add-3.ensures
