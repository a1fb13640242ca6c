-- No line of a sheet is longer than 32 bytes. Assumes nothing.
use Rattle.std.proofs.Common.{ℕ, length-append, ◌^◌, ◌<◌, ◌≤◌, length, ℤ, Some, None, Option, arith, w32, SFits}
use Rattle.std.specs.Fmt.{signed_decimal}
use Rattle.std.proofs.lemmas.Fmt.{decimal_is_IsNumeral, first_decimal, length-decimal-le, length_signed_le}
use Rattle.plans.specs.Refusals.{number_of}
use Rattle.plans.specs.declared.refusal.Refusal.{Refusal}
use Rattle.protocol.specs.declared.words.Account.{Account}
use Rattle.protocol.specs.declared.words.Answer.{Answer}
use Rattle.protocol.specs.declared.words.Answer.TheVariants.{Open, Granted, Wait, Value, Written, Closed, Dropped, Ran, Idle, Refused}
use Rattle.sheets.specs.Sheets.{task_text, account_text, answer_text, sheet_line, TaskWithin, AccountWithin, Within, SheetLaws}

task_short : (task : Option ℕ) → TaskWithin task → length (task_text task) ≤ 3
task_short None within = omega arith
task_short (Some task) within = omega (arith, length-decimal-le 3)

account_short : (a : Account) → AccountWithin a → length (account_text a) ≤ 15
account_short a within = simp length-append (omega (arith, length-decimal-le 5, task_short a.lost_to within.2))

pub value_short : (z : ℤ) → SFits w32 z → length (signed_decimal z) ≤ 11
value_short z fits = length_signed_le 10 z (omega (arith, fits.sfits)) (omega (arith, fits.sfits))

-- refusals are numbered to 19
pub few : (why : Refusal) → number_of why < 10 ^ 2
few why = grind arith

answer_short : (answer : Answer) → Within answer → length (answer_text answer) ≤ 23
answer_short Open within = omega arith
answer_short Granted within = omega arith
answer_short (Wait task) within = omega (arith, length-decimal-le 3)
answer_short (Value value) within = omega (arith, value_short value within)
answer_short Written within = omega arith
answer_short (Closed account) within = omega (arith, account_short account within)
answer_short (Dropped account) within = omega (arith, account_short account within)
answer_short (Ran task) within = omega (arith, length-decimal-le 3)
answer_short Idle within = omega arith
answer_short (Refused why) within = omega (arith, length-decimal-le 2, few why)

pub short : (answer : Answer) (running : Option ℕ) → Within answer → TaskWithin running → length (sheet_line answer running) ≤ 32
short answer running within task = simp length-append (omega (arith, answer_short answer within, task_short running task))

pub sheet_laws : SheetLaws
sheet_laws = record { short = short; back = decimal_is_IsNumeral; leading = first_decimal }
