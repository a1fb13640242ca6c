-- A name, and then an account.
use Rattle.std.proofs.Common.{arith}
use Rattle.sheets.proofs.Written.{adds_then}
use Rattle.sheets.proofs.line.Line.answer.Goals as goal

pub returns-in-Closed : goal.returns-in-Closed
returns-in-Closed c = rw c.in-Closed.is (adds_then (omega arith) c.text-in-Closed.ensures c.account.ensures)

pub returns-in-Dropped : goal.returns-in-Dropped
returns-in-Dropped c = rw c.in-Dropped.is (adds_then (omega arith) c.text-in-Dropped.ensures c.account-in-Dropped.ensures)
