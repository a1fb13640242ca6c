-- One digit is a byte; more of them end where their width says.
use Rattle.std.proofs.Common.{ap, length, arith}
use Rattle.std.proofs.lemmas.Fmt.{decimal_digit}
use Rattle.sheets.proofs.line.Line.digits.Goals as goal

pub byte-requires : goal.byte-requires
byte-requires c = omega (arith, c.requires, ap length (decimal_digit c.args.number (omega arith)))

pub returns-then-number-lt10 : goal.returns-then-number-lt10
returns-then-number-lt10 c = rw (decimal_digit c.args.number (omega arith)) c.byte.ensures
