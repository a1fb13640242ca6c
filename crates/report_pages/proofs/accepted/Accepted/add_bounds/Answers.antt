-- A task's line more, and at the end all of them.
use Rattle.std.proofs.Common.{◌≡◌, length, arith}
use Rattle.report_pages.specs.Accepted.{rule_of, plan_of}
use Rattle.report_pages.specs.Reports.{bound_line}
use Rattle.report_pages.proofs.Sinks.{then, then_line}
use Rattle.report_pages.proofs.accepted.Accepted.add_bounds.Goals as goal

pub loop-task-preserved : goal.loop-task-preserved
loop-task-preserved g c =
    let joins = g.met.S.Sink.joins in
    let accepted = c.args.self.now in
    let bound = rw c.bound-bound.ensures.value at c.in_ok-add_column-4.ensures in
    let reason = rw c.bound-bound.ensures.reason at c.in_ok-add_bound_reason.ensures in
    let period = rw c.rows-row-items.ensures at c.in_ok-add_column-2.ensures in
    let budget = rw c.rows-row-items.ensures at c.in_ok-add_column-3.ensures in
    then_line joins (bound_line (rule_of accepted) (plan_of accepted)) c.loop-task.task c.loop-task.invariant
    (then joins c.in_ok-add_column.ensures (then joins period (then joins budget (then joins bound reason))))

pub returns : goal.returns
returns g c =
    let rows = c.rows-row-items.result.now in
    let all : c.loop-task.task ≡ length rows = omega (arith, c.loop-task-test.false, c.loop-task.auto.task-end) in
    then g.met.S.Sink.joins c.in_ok-add.ensures (rw (all, c.rows-row-items.ensures) at c.loop-task.invariant)
