-- The tape splits into its lines.
use Rattle.tape.proofs.Splits.{splits}
use Rattle.tape.proofs.items.Tape.new.Goals as goal

pub returns-clause-law : goal.returns-clause-law
returns-clause-law c = splits c.args.bytes.now
