-- A manager as the machine sees it, and typed results as answers. Assumes nothing.
use Rattle.std.specs.Prelude.{◌≡◌, ℕ, cond, List, length, ℤ, Some, None, Ok, Err, Option, Result, nat_lt}
use Rattle.rules.specs.Meaning.{Meaning}
use Rattle.plans.specs.Plans.{contents}
use Rattle.plans.specs.Contents.{Contents}
use Rattle.plans.specs.declared.refusal.Refusal.{Refusal}
use Rattle.plans.specs.declared.refusal.Refusal.TheVariants.{FewCells}
use Rattle.protocol.specs.Machine.{Setup, State, Outcome}
use Rattle.protocol.specs.declared.words.Answer.{Answer}
use Rattle.protocol.specs.declared.words.Account.{Account}
use Rattle.protocol.specs.declared.words.Answer.TheVariants.{Open, Value, Written, Closed, Dropped, Ran, Idle, Refused}
use Rattle.stacks.specs.Stacks.{items, room}
use Rattle.manager.specs.declared.manager.Manager.{Manager}
use Rattle.manager.specs.declared.answers.Locked.{Locked}
use Rattle.manager.specs.declared.answers.Locked.TheVariants.{Granted, Wait}

-- a setup of these parts
abbrev pub setup_with : Meaning → Contents → ℕ → ℕ → Setup
setup_with rule plan lock_room journal_room = record { rule = rule; plan = plan; lock_room = lock_room; journal_room = journal_room }

-- what stays the same over its life
abbrev pub setup_of : {R : Type 0} → (R → Meaning) → Manager R → Setup
setup_of meaning m = setup_with (meaning m.rule) (contents m.chart.plan) (room m.locks) (room m.journal)

-- what calls change, with the cells that are lent to them
abbrev pub view : {R : Type 0} → Manager R → List ℤ → State
view m cells = record { tasks = m.roster.tasks; locks = items m.locks; journal = items m.journal; cells = cells }

-- a call did what the machine says of it: what it answered, what it left, and that the setup stayed
pub record Does {R : Type 0} (meaning : R → Meaning) (call : Setup → State → Outcome) (old new : Manager R) (before after : List ℤ) (answer : Answer) : Type 0 where
  pub answers : answer ≡ (call (setup_of meaning old) (view old before)).answer
  pub leaves : view new after ≡ (call (setup_of meaning old) (view old before)).left
  pub keeps : setup_of meaning new ≡ setup_of meaning old

-- the refusal in a result, where there is one
abbrev pub refusal_of : {X : Type 0} → Result X Refusal → Option Refusal
refusal_of (Ok x) = None
refusal_of (Err why) = Some why

-- why a manager is not made: the plan's first fault, then too few cells
abbrev pub make_refusal : Result Contents Refusal → List ℤ → Option Refusal
make_refusal (Ok plan) cells = cond (nat_lt (length cells) 128) (Some FewCells) None
make_refusal (Err why) cells = Some why

-- the answer of a call that may be refused, by what it says where it is not
abbrev pub answer_by : {X : Type 0} → (X → Answer) → Result X Refusal → Answer
answer_by say (Ok x) = say x
answer_by say (Err why) = Refused why

abbrev pub answer_of : Result Answer Refusal → Answer
answer_of = answer_by (λ answer. answer)

abbrev pub arrive_answer : Result (Unit {0}) Refusal → Answer
arrive_answer = answer_by (λ done. Open)

-- an accepted lock
abbrev pub locked : Locked → Answer
locked Granted = Answer.Granted
locked (Wait h) = Answer.Wait h

abbrev pub lock_answer : Result Locked Refusal → Answer
lock_answer = answer_by locked

abbrev pub read_answer : Result ℤ Refusal → Answer
read_answer = answer_by Value

abbrev pub write_answer : Result (Unit {0}) Refusal → Answer
write_answer = answer_by (λ done. Written)

abbrev pub close_answer : Result Account Refusal → Answer
close_answer = answer_by Closed

abbrev pub drop_answer : Result Account Refusal → Answer
drop_answer = answer_by Dropped

-- an accepted tick, by the task that ran it
abbrev pub ticked : Option ℕ → Answer
ticked None = Idle
ticked (Some j) = Ran j

abbrev pub tick_answer : Result (Option ℕ) Refusal → Answer
tick_answer = answer_by ticked
