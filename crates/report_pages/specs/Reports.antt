-- The text of a report, for every input. docs/REPORT.md shows its form. Assumes nothing.
use Rattle.std.specs.Prelude.{ℕ, ◌<◌, cond, List, [], ◌++◌, length, get_or, drop, ℤ, pos, Some, None, Ok, Err, codes, decimal, Option, Result, ◌==◌, slice_index, slice_index_or}
use Rattle.std.specs.Fmt.{signed_decimal}
use Rattle.rules.specs.Meaning.{Meaning, exclusive, read_write}
use Rattle.plans.specs.Ceilings.{ceiling, ceiling_reason, bound, bound_reason}
use Rattle.plans.specs.Contents.{Contents, no_row}
use Rattle.plans.specs.Reading.{read_whole}
use Rattle.plans.specs.Refusals.{number_of}
use Rattle.plans.specs.declared.parts.Object.{Object}
use Rattle.plans.specs.declared.parts.Use.{Use}
use Rattle.pages.specs.Pages.{column, numbered_lines}
use Rattle.plans.specs.declared.refusal.Refusal.{Refusal}
use Rattle.plans.specs.declared.refusal.Refusal.TheVariants.{PlanEnds, CountOutOfLimits, BadRow, PeriodFalls, UseNotThere, UseAgain, BytesAfterPlan, FewCells, NumberNotThere, AlreadyOpen, NotRunning, NoSuchUse, AlreadyHeld, LocksFull, NotCovered, JournalFull, BudgetSpent, UnreadableLine, ShortSheet}

-- what stands for an object that is not there
abbrev pub no_object : Object
no_object = record { start = [] }

-- the value that a part of the object starts with
abbrev pub start_value : Object → ℕ → ℤ
start_value o part = slice_index_or o.start part (pos 0)

abbrev pub values_text : Object → List ℕ
values_text o =
    signed_decimal (start_value o 0) ++ (codes " " ++ (signed_decimal (start_value o 1) ++ (codes " " ++ (signed_decimal (start_value o 2) ++ (codes " " ++ signed_decimal (start_value o 3))))))

-- an object: its number, its four start values
abbrev pub object_line : List Object → ℕ → List ℕ
object_line objects object = column 6 object ++ (values_text (slice_index_or objects object no_object) ++ codes "\n")

abbrev pub objects_text : List Object → List ℕ
objects_text objects = codes "\nobject  start values\n" ++ numbered_lines (length objects) (object_line objects)

-- why a ceiling is what it is
abbrev pub ceiling_because : Option Use → List ℕ
ceiling_because (Some u) = codes "task " ++ (decimal u.task ++ (codes " may want it in mode " ++ (decimal u.mode ++ codes "\n")))
ceiling_because None = codes "no task wants it in a mode that clashes\n"

-- a ceiling: the object, the mode that it is held in, the ceiling, the reason
abbrev pub ceiling_line : Meaning → List Use → ℕ → ℕ → List ℕ
ceiling_line m uses object mode = column 6 object ++ (column 4 mode ++ (column 7 (ceiling m uses object mode) ++ ceiling_because (ceiling_reason m uses object mode)))

-- object by object, and for each of them mode by mode
abbrev pub ceilings_text : Meaning → Contents → List ℕ
ceilings_text m plan =
    codes "\nobject  mode  ceiling  because\n" ++ numbered_lines (length plan.objects) (λ object. numbered_lines m.modes (ceiling_line m plan.uses object))

-- a lock that a task may hold, and the ceiling that it has then
abbrev pub lock_text : Meaning → List Use → Use → List ℕ
lock_text m uses u =
    codes "task " ++ (decimal u.task ++ (codes " may hold object " ++ (decimal u.object ++ (codes " in mode " ++ (decimal u.mode
    ++ (codes ", ceiling " ++ (decimal (ceiling m uses u.object u.mode) ++ codes "\n")))))))

-- why a bound is what it is
abbrev pub bound_because : Meaning → List Use → Option Use → List ℕ
bound_because m uses (Some u) = lock_text m uses u
bound_because m uses None = codes "no lower task can hold it up\n"

-- a task: its number, its period, its budget, its bound, the reason
abbrev pub bound_line : Meaning → Contents → ℕ → List ℕ
bound_line m plan task =
    column 4 task ++ (column 6 (get_or plan.rows task no_row).period ++ (column 6 (get_or plan.rows task no_row).budget
    ++ (column 5 (bound m plan task) ++ bound_because m plan.uses (bound_reason m plan task))))

abbrev pub bounds_text : Meaning → Contents → List ℕ
bounds_text m plan = codes "\ntask  period  budget  bound  because\n" ++ numbered_lines (length plan.rows) (bound_line m plan)

-- an accepted plan: the rule's name and the three tables
abbrev pub plan_text : Meaning → List ℕ → Contents → List ℕ
plan_text m name plan = codes "rule: " ++ (name ++ (codes "\n" ++ (objects_text plan.objects ++ (ceilings_text m plan ++ bounds_text m plan))))

-- what a refusal means, in words; the refusals from FewCells on, but for 9, are of calls, tapes and sheets
abbrev pub refusal_words : Refusal → List ℕ
refusal_words PlanEnds = codes "the plan ends before its last section does"
refusal_words CountOutOfLimits = codes "a count is outside its limits"
refusal_words BadRow = codes "a period or a budget is 0, or a budget is above its period"
refusal_words PeriodFalls = codes "a period is smaller than that of the row before"
refusal_words UseNotThere = codes "a use names a task, an object or a mode that is not there"
refusal_words UseAgain = codes "the same use stands twice"
refusal_words BytesAfterPlan = codes "there are bytes after the plan"
refusal_words FewCells = codes "not a fault of a plan"
refusal_words NumberNotThere = codes "there is no such rule"
refusal_words AlreadyOpen = codes "not a fault of a plan"
refusal_words NotRunning = codes "not a fault of a plan"
refusal_words NoSuchUse = codes "not a fault of a plan"
refusal_words AlreadyHeld = codes "not a fault of a plan"
refusal_words LocksFull = codes "not a fault of a plan"
refusal_words NotCovered = codes "not a fault of a plan"
refusal_words JournalFull = codes "not a fault of a plan"
refusal_words BudgetSpent = codes "not a fault of a plan"
refusal_words UnreadableLine = codes "not a fault of a plan"
refusal_words ShortSheet = codes "not a fault of a plan"

-- one line: the refusal's number and what it means
abbrev pub refused_text : Refusal → List ℕ
refused_text why = codes "refused " ++ (decimal (number_of why) ++ (codes ": " ++ (refusal_words why ++ codes "\n")))

-- what is printed of a plan that was read, or refused
abbrev pub told : Meaning → List ℕ → Result Contents Refusal → List ℕ
told m name (Ok plan) = plan_text m name plan
told m name (Err why) = refused_text why

-- under the rule with this number: 1 is exclusive, 2 is read/write
abbrev pub text_under : ℕ → List ℕ → List ℕ
text_under number bytes =
    cond (number == 1) (told exclusive (codes "exclusive") (read_whole exclusive bytes))
    (cond (number == 2) (told read_write (codes "read/write") (read_whole read_write bytes))
    (refused_text NumberNotThere))

-- the input is the rule's number and then the plan; without a number there is no such rule
abbrev pub report_text : List ℕ → List ℕ
report_text input = cond (length input == 0) (refused_text NumberNotThere) (text_under (slice_index input 0) (drop 1 input))

-- the object and the mode of a use are there, and so they are in a reason, as reasons are uses of the plan
abbrev pub IsThere : Meaning → Contents → Use → Type 0
IsThere m plan u = (u.object < length plan.objects) × (u.mode < m.modes)

abbrev pub ReasonThere : Meaning → Contents → Option Use → Type 0
ReasonThere m plan None = Unit {0}
ReasonThere m plan (Some u) = IsThere m plan u
