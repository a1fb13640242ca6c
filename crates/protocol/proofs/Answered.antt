-- The kind of each answer: every member of a line is answered by a refusal or as its call is, and an end by an account.
use Rattle.std.proofs.Common.{◌≡◌, ℕ, true, List, Some}
use Rattle.std.specs.List.{AllByRecursion}
use Rattle.protocol.specs.declared.words.Call.{Call}
use Rattle.protocol.specs.declared.words.Account.{Account}
use Rattle.protocol.specs.Machine.{Setup, State, Outcome, step, account_of}
use Rattle.protocol.specs.Lines.{Event, Line, none, more, ends}
use Rattle.protocol.specs.Answers.{AnswerOf}
use Rattle.protocol.specs.Laws.{account_in}
use Rattle.protocol.proofs.Steps.{Step, step_is}
use Rattle.protocol.proofs.Outcomes.{kind}
use Rattle.protocol.proofs.Stretches.{ends_answers}

-- each outcome answers as its call is
kind_answered : (setup : Setup) (s : State) (c : Call) (o : Outcome) → Step setup s c o → AnswerOf c o.answer
kind_answered setup s c o (Step.refuses _ why) = AnswerOf.refused c why
kind_answered setup s c o (Step.arrives task there rest) = AnswerOf.opened task
kind_answered setup s c o (Step.waits task object mode h b run is_planned not_held held own t) = AnswerOf.wait task object mode h
kind_answered setup s c o (Step.grants task object mode run is_planned not_held free room) = AnswerOf.granted task object mode
kind_answered setup s c o (Step.reads task object part run may) = AnswerOf.value task object part _
kind_answered setup s c o (Step.writes task object part value run may room) = AnswerOf.written task object part value
kind_answered setup s c o (Step.closes task run) = AnswerOf.closed task _
kind_answered setup s c o (Step.drops task run) = AnswerOf.dropped task _
kind_answered setup s c o (Step.ticks j run less) = AnswerOf.ran j
kind_answered setup s c o (Step.idles nobody) = AnswerOf.idle

-- so does each member of a line
pub of_kind : (setup : Setup) (start s : State) (line : List Event) → Line setup start line s → AllByRecursion (λ e. AnswerOf e.call e.answer) line
of_kind setup start s line none = tt
of_kind setup start s line (more {line = l} {s = t} before c) = (kind_answered setup t c (step setup t c) (step_is setup t c), of_kind setup start t l before)

-- and an accepted close or drop answers an account
pub ends_account : (setup : Setup) (start s : State) (line : List Event) → Line setup start line s → AllByRecursion (λ e. (i : ℕ) → ends i e ≡ true → (a : Account) × (account_in e.answer ≡ Some a)) line
ends_account setup start s line none = tt
ends_account setup start s line (more {line = l} {s = t} before c) = (λ i b. (account_of t i, ends_answers setup t i (kind setup t c) b), ends_account setup start t l before)
