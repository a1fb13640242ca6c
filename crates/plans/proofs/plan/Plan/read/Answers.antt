-- The law holds of every list of bytes.
use Rattle.plans.proofs.Written.{accepted_exactly}
use Rattle.plans.proofs.plan.Plan.read.Goals as goal

pub returns-clause-law : goal.returns-clause-law
returns-clause-law g c = accepted_exactly _ c.args.input.now (λ i. (c.type_inv.input i).fits)
