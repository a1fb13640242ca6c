-- An object's line more, and at the end all of them.
use Rattle.std.proofs.Common.{◌≡◌, length, arith}
use Rattle.report_pages.specs.Reports.{object_line}
use Rattle.report_pages.proofs.Sinks.{then, then_line}
use Rattle.report_pages.proofs.accepted.Accepted.add_objects.Goals as goal

pub loop-number-preserved : goal.loop-number-preserved
loop-number-preserved g c =
    let joins = g.met.S.Sink.joins in
    then_line joins (object_line c.objects-object-items.result.now) c.loop-number.number c.loop-number.invariant (then joins c.in_ok-add_column.ensures (then joins c.in_ok-add_values.ensures c.in_ok-add-2.ensures))

pub returns : goal.returns
returns g c =
    let objects = c.objects-object-items.result.now in
    let all : c.loop-number.number ≡ length objects = omega (arith, c.loop-number-test.false, c.loop-number.auto.number-end) in
    then g.met.S.Sink.joins c.in_ok-add.ensures (rw (all, c.objects-object-items.ensures) at c.loop-number.invariant)
