-- The text says it, also where the report is on a copy of the input: only so is must-fail/rule_two_is_exclusive refused for its number.
use Rattle.std.proofs.Common.{string_bytes, rules}
use Rattle.std.proofs.lemmas.Result.{IfOk-weaker}
use Rattle.reports.specs.Lines.{Told}
use Rattle.reports.proofs.Refused.{refused_in_line}
use Rattle.reports.proofs.report_on.Goals as goal

pub returns-clause-refused : goal.returns-clause-refused
returns-clause-refused c = IfOk-weaker c.format.result _ (λ s. Told c.args.input.now (string_bytes s)) (λ s is. refused_in_line c.args.input.now (string_bytes s) (search (rules, is))) c.format.ensures.ok
