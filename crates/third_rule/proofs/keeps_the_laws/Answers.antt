-- The theorem holds of every rule, and so of this one.
use Rattle.third_rule.proofs.keeps_the_laws.Goals as goal

pub returns : goal.returns
returns c = c.laws_hold.ensures c.args.rule
