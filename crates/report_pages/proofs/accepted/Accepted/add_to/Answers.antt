-- The name, then the three tables.
use Rattle.std.proofs.lemmas.Result.{on_ok_weaker}
use Rattle.report_pages.proofs.Sinks.{then}
use Rattle.report_pages.proofs.accepted.Accepted.add_to.Goals as goal

pub returns : goal.returns
returns g c =
    let joins = g.met.S.Sink.joins in
    let name = rw c.name.ensures at c.in_ok-add-2.ensures in
    on_ok_weaker c.add_bounds.result (λ end. then joins c.in_ok-add.ensures (then joins name (then joins c.in_ok-add-3.ensures (then joins c.in_ok-add_objects.ensures (then joins c.in_ok-add_ceilings.ensures end))))) c.add_bounds.ensures
