-- The lines of a sheet, and what it means to write at a place. docs/TAPE.md has the format. Assumes nothing.
use Rattle.std.specs.Prelude.{◌≡◌, ℕ, ◌+◌, ◌^◌, ◌<◌, ◌≤◌, List, [], ◌∷◌, ◌++◌, length, take, drop, pos, negsuc, Some, None, codes, decimal, Option, Result, MatchResult, is_ok, nat_le, FitsSigned, slice_index}
use Rattle.std.specs.Int.{w32}
use Rattle.std.specs.Str.Parse.{IsNumeral, digits_value}
use Rattle.std.specs.Fmt.{signed_decimal}
use Rattle.plans.specs.Refusals.{number_of}
use Rattle.plans.specs.declared.refusal.Refusal.{Refusal}
use Rattle.plans.specs.declared.refusal.Refusal.TheVariants.{BudgetSpent, ShortSheet}
use Rattle.protocol.specs.declared.words.Account.{Account}
use Rattle.protocol.specs.declared.words.Answer.{Answer}
use Rattle.protocol.specs.declared.words.Answer.TheVariants.{Open, Granted, Wait, Value, Written, Closed, Dropped, Ran, Idle, Refused}
use Rattle.sheets.specs.declared.line.Line.{Line}

-- bytes with a text written over them from a place on
abbrev pub written : List ℕ → ℕ → List ℕ → List ℕ
written before at text = take at before ++ (text ++ drop (at + length text) before)

-- the text was written from a place on, and the bytes before it and behind it stay
pub record Put (before : List ℕ) (at : ℕ) (text after : List ℕ) (end : ℕ) : Type 0 where
  pub bytes : after ≡ written before at text
  pub behind : end ≡ at + length text

-- the text is put where there is room for `most` bytes from the place on; else the sheet is as it was, and is refused as short
pub record Writes (most : ℕ) (before : List ℕ) (at : ℕ) (text after : List ℕ) (result : Result ℕ Refusal) : Type 0 where
  pub put : MatchResult result (λ end. Put before at text after end) (λ why. (why ≡ ShortSheet) × (after ≡ before))
  pub room : is_ok result ≡ nat_le (at + most) (length before)

-- a line with a text more, in the same lent bytes
pub record Adds (before : Line) (text : List ℕ) (after : Line) : Type 0 where
  pub put : Put before.sheet.now before.end text after.sheet.now after.end
  pub room : length after.sheet.now ≡ length before.sheet.now
  pub same : after.sheet.ghost_name ≡ before.sheet.ghost_name

-- a task, or a dash where there is none
abbrev pub task_text : Option ℕ → List ℕ
task_text None = codes "-"
task_text (Some task) = decimal task

-- used, lost, lost to
abbrev pub account_text : Account → List ℕ
account_text a = decimal a.used ++ (codes " " ++ (decimal a.lost ++ (codes " " ++ task_text a.lost_to)))

abbrev pub answer_text : Answer → List ℕ
answer_text Open = codes "open"
answer_text Granted = codes "granted"
answer_text (Wait task) = codes "wait " ++ decimal task
answer_text (Value value) = codes "value " ++ signed_decimal value
answer_text Written = codes "written"
answer_text (Closed account) = codes "closed " ++ account_text account
answer_text (Dropped account) = codes "dropped " ++ account_text account
answer_text (Ran task) = codes "ran " ++ decimal task
answer_text Idle = codes "idle"
answer_text (Refused why) = codes "refused " ++ decimal (number_of why)

-- the answer, then the running task, then the line's end
abbrev pub sheet_line : Answer → Option ℕ → List ℕ
sheet_line answer running = answer_text answer ++ (codes " run " ++ (task_text running ++ (10 ∷ [])))

-- the numbers of an answer are within the widths of their types
abbrev pub TaskWithin : Option ℕ → Type 0
TaskWithin None = Unit {0}
TaskWithin (Some task) = task < 2 ^ 8

abbrev pub AccountWithin : Account → Type 0
AccountWithin a = (a.used < 2 ^ 16) × (a.lost < 2 ^ 16) × TaskWithin a.lost_to

abbrev pub Within : Answer → Type 0
Within Open = Unit {0}
Within Granted = Unit {0}
Within (Wait task) = task < 2 ^ 8
Within (Value value) = FitsSigned w32 value
Within Written = Unit {0}
Within (Closed account) = AccountWithin account
Within (Dropped account) = AccountWithin account
Within (Ran task) = task < 2 ^ 8
Within Idle = Unit {0}
Within (Refused why) = Unit {0}

pub record SheetLaws : Type 0 where
  -- no line is longer than 32 bytes
  pub short : (answer : Answer) (running : Option ℕ) → Within answer → TaskWithin running → length (sheet_line answer running) ≤ 32
  -- what stands for a number are digits, and they are read as that number again
  pub back : (n : ℕ) → n < 2 ^ 64 → IsNumeral 10 (decimal n) × (digits_value 10 (decimal n) ≡ n)
  -- no number begins with a zero, but 0 itself
  pub leading : (n : ℕ) → 0 < n → n < 2 ^ 64 → 48 < slice_index (decimal n) 0

-- what some lines look like
pub record SheetExamples : Type 0 where
  pub opens : sheet_line Open (Some 2) ≡ codes "open run 2" ++ (10 ∷ [])
  pub waits : sheet_line (Wait 2) (Some 2) ≡ codes "wait 2 run 2" ++ (10 ∷ [])
  pub reads : sheet_line (Value (pos 905)) (Some 0) ≡ codes "value 905 run 0" ++ (10 ∷ [])
  pub reads_below_zero : sheet_line (Value (negsuc 2147483647)) (Some 0) ≡ codes "value -2147483648 run 0" ++ (10 ∷ [])
  pub closes : sheet_line (Closed (record { used = 1; lost = 1; lost_to = Some 2 })) None ≡ codes "closed 1 1 2 run -" ++ (10 ∷ [])
  pub closes_undisturbed : sheet_line (Closed (record { used = 0; lost = 0; lost_to = None })) (Some 2) ≡ codes "closed 0 0 - run 2" ++ (10 ∷ [])
  pub refuses : sheet_line (Refused BudgetSpent) (Some 0) ≡ codes "refused 17 run 0" ++ (10 ∷ [])
  pub longest : length (sheet_line (Dropped (record { used = 65535; lost = 65535; lost_to = Some 255 })) (Some 255)) ≡ 32
