-- A refusal is the answer, whatever is asked.
use Rattle.std.proofs.Common.{Ok, rules}
use Rattle.ceiling_locks.proofs.check_under.Goals as goal

pub returns-in_err-accepted : goal.returns-in_err-accepted
returns-in_err-accepted c = search (rules, c.in_err-accepted.ensures (λ m p. Ok 0))
