-- A line more, and at the end all of them.
use Rattle.std.proofs.Common.{◌≡◌, length, ap, arith}
use Rattle.pages.specs.Pages.{numbered_lines}
use Rattle.report_pages.specs.Accepted.{rule_of, plan_of}
use Rattle.report_pages.specs.Reports.{ceiling_line}
use Rattle.report_pages.proofs.Sinks.{then, then_line}
use Rattle.report_pages.proofs.accepted.Accepted.add_ceilings.Goals as goal

pub loop-mode-preserved : goal.loop-mode-preserved
loop-mode-preserved g c =
    let accepted = c.args.self.now in
    then_line g.met.S.Sink.joins (ceiling_line (rule_of accepted) (plan_of accepted).uses c.loop-object.object) c.loop-mode.mode c.loop-mode.invariant c.in_ok-add_ceiling.ensures

pub loop-object-preserved : goal.loop-object-preserved
loop-object-preserved g c =
    let accepted = c.args.self.now in
    let all : c.loop-mode.mode ≡ (rule_of accepted).modes = omega (arith, c.loop-mode-test.false, c.loop-mode.auto.mode-end, c.modes-mode-end.ensures) in
    then_line g.met.S.Sink.joins (λ object. numbered_lines (rule_of accepted).modes (ceiling_line (rule_of accepted) (plan_of accepted).uses object)) c.loop-object.object c.loop-object.invariant (rw all at c.loop-mode.invariant)

pub returns : goal.returns
returns g c =
    let all : c.loop-object.object ≡ length (plan_of c.args.self.now).objects = omega (arith, c.loop-object-test.false, c.loop-object.auto.object-end, ap length c.objects-object-end.ensures) in
    then g.met.S.Sink.joins c.in_ok-add.ensures (rw all at c.loop-object.invariant)
