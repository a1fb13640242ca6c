-- A plan that was accepted under a numbered rule, and its text. Assumes nothing.
use Rattle.std.specs.Prelude.{List, ℕ, codes}
use Rattle.rules.specs.Meaning.{Meaning}
use Rattle.rules.specs.Numbered.{meaning_of}
use Rattle.rules.specs.declared.numbered.NumberedRule.{NumberedRule}
use Rattle.rules.specs.declared.numbered.NumberedRule.TheVariants.{Exclusive, ReadWrite}
use Rattle.plans.specs.Contents.{Contents}
use Rattle.plans.specs.Plans.{contents}
use Rattle.report_pages.specs.Reports.{plan_text}
use Rattle.report_pages.specs.declared.accepted.Accepted.{Accepted}

abbrev pub rule_of : Accepted → Meaning
rule_of accepted = meaning_of accepted.rule

abbrev pub plan_of : Accepted → Contents
plan_of accepted = contents accepted.plan

abbrev pub name_of : NumberedRule → List ℕ
name_of Exclusive = codes "exclusive"
name_of ReadWrite = codes "read/write"

abbrev pub accepted_text : Accepted → List ℕ
accepted_text accepted = plan_text (rule_of accepted) (name_of accepted.rule) (plan_of accepted)
