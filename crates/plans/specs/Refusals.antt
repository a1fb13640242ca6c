-- The number of each refusal. Assumes nothing.
use Rattle.std.specs.Prelude.{ℕ}
use Rattle.plans.specs.declared.refusal.Refusal.{Refusal}
use Rattle.plans.specs.declared.refusal.Refusal.TheVariants.{PlanEnds, CountOutOfLimits, BadRow, PeriodFalls, UseNotThere, UseAgain, BytesAfterPlan, FewCells, NumberNotThere, AlreadyOpen, NotRunning, NoSuchUse, AlreadyHeld, LocksFull, NotCovered, JournalFull, BudgetSpent, UnreadableLine, ShortSheet}

abbrev pub number_of : Refusal → ℕ
number_of PlanEnds = 1
number_of CountOutOfLimits = 2
number_of BadRow = 3
number_of PeriodFalls = 4
number_of UseNotThere = 5
number_of UseAgain = 6
number_of BytesAfterPlan = 7
number_of FewCells = 8
number_of NumberNotThere = 9
number_of AlreadyOpen = 10
number_of NotRunning = 11
number_of NoSuchUse = 12
number_of AlreadyHeld = 13
number_of LocksFull = 14
number_of NotCovered = 15
number_of JournalFull = 16
number_of BudgetSpent = 17
number_of UnreadableLine = 18
number_of ShortSheet = 19
