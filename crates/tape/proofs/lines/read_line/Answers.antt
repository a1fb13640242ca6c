-- The law holds of every line.
use Rattle.tape.proofs.Legal.{reads_exactly}
use Rattle.tape.proofs.lines.read_line.Goals as goal

pub returns-clause-law : goal.returns-clause-law
returns-clause-law c = reads_exactly c.args.line.now
