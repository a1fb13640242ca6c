-- Every rule is lawful, so the laws hold under it.
use Rattle.protocol.proofs.AllLaws.{laws_hold}
use Rattle.protocol.proofs.laws.laws_hold.Goals as goal

pub returns : goal.returns
returns g c = λ rule. laws_hold (g.R.LockRule.meaning rule) (g.met.R.LockRule.lawful rule)
