-- A close is the numbered one's, whatever the cells are.
use Rattle.std.proofs.Common.{rules}
use Rattle.tickets.proofs.ticket.Ticket.close.Goals as goal

pub returns-clause-does : goal.returns-clause-does
returns-clause-does g c = λ cells. let does = c.close-closed.ensures cells in search rules
