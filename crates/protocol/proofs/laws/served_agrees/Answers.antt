-- The lemma, at every list.
use Rattle.protocol.proofs.ServedWord.{served_agrees}
use Rattle.protocol.proofs.laws.served_agrees.Goals as goal

pub returns : goal.returns
returns c = served_agrees
