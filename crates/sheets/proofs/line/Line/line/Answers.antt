-- The answer, the word, the task, the end.
use Rattle.std.proofs.Common.{◌≤◌, length, arith, append_assoc}
use Rattle.sheets.proofs.Written.{adds_then}
use Rattle.sheets.proofs.line.Line.line.Goals as goal

pub returns : goal.returns
returns c =
    let inside : c.args.self.now.end ≤ length c.args.self.now.sheet.now = omega arith in
    simp append_assoc at (adds_then inside (adds_then inside (adds_then inside c.answer.ensures c.text.ensures) c.task.ensures) c.byte.ensures)
