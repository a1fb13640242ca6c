-- There is room for the longest number.
use Rattle.std.proofs.Common.{arith, w32}
use Rattle.std.proofs.lemmas.Int.{to_z-of_z}
use Rattle.sheets.proofs.Lengths.{value_short}
use Rattle.sheets.proofs.sheet.write_number.Goals as goal

pub number-requires : goal.number-requires
number-requires c = rw (to_z-of_z w32 c.args.number c.ranges.number) (omega (arith, value_short c.args.number c.ranges.number))
