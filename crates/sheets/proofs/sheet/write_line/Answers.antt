-- There is room for the longest line. The laws and examples of sheets.
use Rattle.std.proofs.Common.{arith, rules}
use Rattle.sheets.specs.Sheets.{Within, TaskWithin}
use Rattle.sheets.proofs.Examples.{sheet_examples}
use Rattle.sheets.proofs.Lengths.{short, sheet_laws}
use Rattle.sheets.proofs.sheet.write_line.Goals as goal

pub line-requires : goal.line-requires
line-requires c =
    let within : Within c.args.answer = search rules in
    let task : TaskWithin c.args.running = search rules in
    omega (arith, short c.args.answer c.args.running within task)

pub returns-in_err-room-clause-law : goal.returns-in_err-room-clause-law
returns-in_err-room-clause-law c = sheet_laws

pub returns-in_err-room-clause-examples : goal.returns-in_err-room-clause-examples
returns-in_err-room-clause-examples c = sheet_examples

pub returns-clause-law : goal.returns-clause-law
returns-clause-law c = sheet_laws

pub returns-clause-examples : goal.returns-clause-examples
returns-clause-examples c = sheet_examples
