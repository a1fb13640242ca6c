-- The laws hold whatever was played or refused.
use Rattle.player.proofs.Plays.{laws_of}
use Rattle.player.proofs.player.play.Goals as goal

pub returns-then-input-gt-MOST_INPUT-clause-laws : goal.returns-then-input-gt-MOST_INPUT-clause-laws
returns-then-input-gt-MOST_INPUT-clause-laws g c = laws_of (g.R.LockRule.meaning c.args.rule) (g.met.R.LockRule.lawful c.args.rule) c.args.input.now (λ i. (c.type_inv.input i).fits)

pub returns-then-count-gt-MOST_LINES-clause-laws : goal.returns-then-count-gt-MOST_LINES-clause-laws
returns-then-count-gt-MOST_LINES-clause-laws g c = laws_of (g.R.LockRule.meaning c.args.rule) (g.met.R.LockRule.lawful c.args.rule) c.args.input.now (λ i. (c.type_inv.input i).fits)

pub returns-then-sheet-count-clause-laws : goal.returns-then-sheet-count-clause-laws
returns-then-sheet-count-clause-laws g c = laws_of (g.R.LockRule.meaning c.args.rule) (g.met.R.LockRule.lawful c.args.rule) c.args.input.now (λ i. (c.type_inv.input i).fits)

pub returns-clause-laws : goal.returns-clause-laws
returns-clause-laws g c = laws_of (g.R.LockRule.meaning c.args.rule) (g.met.R.LockRule.lawful c.args.rule) c.args.input.now (λ i. (c.type_inv.input i).fits)
