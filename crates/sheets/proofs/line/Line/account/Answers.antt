-- Used, a space, lost, a space, lost to.
use Rattle.std.proofs.Common.{◌≤◌, length, arith, append_assoc}
use Rattle.sheets.proofs.Written.{adds_then}
use Rattle.sheets.proofs.line.Line.account.Goals as goal

pub returns : goal.returns
returns c =
    let inside : c.args.self.now.end ≤ length c.args.self.now.sheet.now = omega arith in
    rw (← c.from.ensures, ← c.from-2.ensures) (simp append_assoc at (adds_then inside (adds_then inside (adds_then inside (adds_then inside c.digits.ensures c.byte.ensures) c.digits-2.ensures) c.byte-2.ensures) c.task.ensures))
