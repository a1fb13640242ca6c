-- The name, and then the number.
use Rattle.std.proofs.Common.{arith, w32}
use Rattle.std.proofs.lemmas.Int.{to_z-of_z}
use Rattle.sheets.proofs.Written.{adds_then}
use Rattle.sheets.proofs.line.Line.named.Goals as goal

pub returns : goal.returns
returns c = adds_then (omega arith) c.text.ensures (rw (to_z-of_z w32 c.args.number c.ranges.number) at c.number.ensures)
