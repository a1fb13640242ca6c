-- The four values, and a blank between two of them.
use Rattle.std.proofs.Common.{◌≡◌, ℕ, ◌<◌, w32, to_z, of_z, rules, arith}
use Rattle.std.proofs.lemmas.Result.{on_ok_weaker}
use Rattle.report_pages.specs.Reports.{start_value}
use Rattle.report_pages.proofs.Sinks.{then}
use Rattle.report_pages.proofs.reports.add_values.Goals as goal

pub returns : goal.returns
returns g c =
    let joins = g.met.S.Sink.joins in
    let fits : (part : ℕ) → part < 4 → to_z w32 (of_z w32 (start_value c.args.object.now part)) ≡ start_value c.args.object.now part = λ part few. search rules in
    on_ok_weaker c.add_after-3.result (λ end. then joins (rw (fits 0 (omega arith)) at c.in_ok-add_number.ensures) (then joins (rw (fits 1 (omega arith)) at c.in_ok-add_after.ensures)
    (then joins (rw (fits 2 (omega arith)) at c.in_ok-add_after-2.ensures) (rw (fits 3 (omega arith)) at end)))) c.add_after-3.ensures
