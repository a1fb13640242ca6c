-- Results of calls with a ticket as answers, and what becomes of the ticket. Assumes nothing.
use Rattle.std.specs.Prelude.{◌≡◌, ℕ, false, IfOk, IfErr, Ok, Err, Result}
use Rattle.plans.specs.declared.refusal.Refusal.{Refusal}
use Rattle.protocol.specs.declared.words.Account.{Account}
use Rattle.protocol.specs.declared.words.Answer.{Answer}
use Rattle.protocol.specs.declared.words.Answer.TheVariants.{Open, Closed, Dropped, Refused}
use Rattle.manager.specs.View.{answer_by}
use Rattle.tickets.specs.declared.ticket.Ticket.{Ticket}

-- a ticket of this task, which is still to be spent
pub record TicketOf (task : ℕ) (t : Ticket) : Type 0 where
  pub own : t.task ≡ task
  pub unspent : t.spent ≡ false

abbrev pub arrive_answer : Result Ticket Refusal → Answer
arrive_answer = answer_by (λ ticket. Open)

-- arrive gives a ticket of the task exactly where it is accepted
abbrev pub Given : ℕ → Result Ticket Refusal → Type 0
Given task r = IfOk r (TicketOf task)

-- the answer of a call that ends a ticket, by what it says where it is not refused
abbrev pub end_answer : (Account → Answer) → Result Account (Refusal × Ticket) → Answer
end_answer say (Ok account) = say account
end_answer say (Err p) = Refused p.0

abbrev pub close_answer : Result Account (Refusal × Ticket) → Answer
close_answer = end_answer Closed

abbrev pub drop_answer : Result Account (Refusal × Ticket) → Answer
drop_answer = end_answer Dropped

-- a close or drop gives the ticket back exactly where it is refused
abbrev pub GivenBack : Ticket → Result Account (Refusal × Ticket) → Type 0
GivenBack ticket r = IfErr r (λ p. p.1 ≡ ticket)
