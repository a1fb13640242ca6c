-- A minus, and then the digits.
use Rattle.std.proofs.Common.{◌≡◌, true, pos, nat_abs, arith, w32}
use lib.Signed.{lt_z}
use Rattle.std.proofs.lemmas.Int.{to_z-of_z}
use Rattle.sheets.proofs.Written.{adds_then, minus_first}
use Rattle.sheets.proofs.line.Line.number.Goals as goal

pub returns-then-number-lt0 : goal.returns-then-number-lt0
returns-then-number-lt0 c =
    let number = c.args.number in
    let below : lt_z number (pos 0) ≡ true = rw (to_z-of_z w32 number c.ranges.number) at c.if-number-lt0.true in
    let size : c.unsigned_abs.result ≡ nat_abs number = rw (to_z-of_z w32 number c.ranges.number) at c.unsigned_abs.ensures.value in
    rw (minus_first number below, ← size) (adds_then (omega arith) c.byte.ensures c.digits.ensures)
