-- The laws over a line of calls, put together.
use Rattle.std.proofs.Common.{sym, subst}
use Rattle.rules.specs.Meaning.{Meaning, Lawful}
use Rattle.protocol.specs.Laws.{LawsHold}
use Rattle.protocol.proofs.Reached.{no_chain, somebody_runs, newest_own, apart}
use Rattle.protocol.proofs.Counts.{in_budget}
use Rattle.protocol.proofs.Serial.{serial_laws}
use Rattle.protocol.proofs.Exclusion.{exclusion, why_waits}
use Rattle.protocol.proofs.Answered.{ends_account, of_kind}
use Rattle.protocol.proofs.Starts.{as_many_cells, start_values}
use Rattle.protocol.proofs.Progress.{answers}
use Rattle.protocol.proofs.Accepted.{accepted_tells}
use Rattle.protocol.proofs.Instances.{one_wait, one_lower, bounded, ticks_in_budget, used_counted, lost_counted, lost_to_named}

-- every law holds of every line under a lawful rule
pub laws_hold : (m : Meaning) → Lawful m → LawsHold m
laws_hold m lawful setup cells start s line rule made line_to =
    let keeps = subst Lawful (sym rule) lawful in
    let (cells-serial, reads-serial) = serial_laws setup cells start keeps made line s line_to in
    record {
      no_chain = no_chain setup cells start s line made line_to;
      somebody_runs = somebody_runs setup cells start s line made line_to;
      newest_own = newest_own setup cells start s line made line_to;
      in_budget = in_budget setup cells start s line made line_to;
      one_wait = one_wait setup cells start made s line line_to;
      one_lower = one_lower setup cells start made s line line_to;
      bounded = bounded setup cells start made s line line_to;
      serial_cells = cells-serial;
      serial_reads = reads-serial;
      used_counted = used_counted setup cells start made s line line_to;
      lost_counted = lost_counted setup cells start made s line line_to;
      lost_to_named = lost_to_named setup cells start made s line line_to;
      exclusion = exclusion setup cells start s line made line_to;
      undisturbed = apart setup cells start s line made line_to keeps;
      why_waits = why_waits setup cells start s line made line_to;
      ticks_in_budget = ticks_in_budget setup cells start made s line line_to;
      ends_account = ends_account setup start s line line_to;
      of_kind = of_kind setup start s line line_to;
      start_values = λ given from. start_values setup given start from;
      as_many_cells = as_many_cells setup start s line line_to;
      next = answers setup cells start s line keeps made line_to;
      told = accepted_tells setup cells start s line made line_to;
    }
