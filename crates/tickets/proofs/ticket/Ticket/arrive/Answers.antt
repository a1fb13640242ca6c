-- A refused arrive is the numbered one's, whatever the cells are.
use Rattle.std.proofs.Common.{rules}
use Rattle.tickets.proofs.ticket.Ticket.arrive.Goals as goal

pub returns-in_err-arrive-clause-does : goal.returns-in_err-arrive-clause-does
returns-in_err-arrive-clause-does g c = λ cells. let does = c.arrive.ensures cells in search rules
