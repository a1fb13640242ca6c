use Rattle.std.proofs.Common.{◌≡◌, ◌-◌, ℕ, List, [], length}
use Rattle.plans.specs.Reading.{Read, read_some}
use Rattle.plans.specs.Results.{ReadsBy}
use Rattle.plans.proofs.reader.read_some.Given as goal

-- reading on from here gives what reading from the start gives
abbrev pub invariant-loop : goal.invariant-loop
invariant-loop g l =
    (length l.items.items ≡ l.counter)
    × ((one : List g.row.T.Denot → List ℕ → Read g.row.T.Denot) → ReadsBy g.F.Fn l.read one → read_some one (l.count - l.counter) l.items.items l.rest ≡ read_some one l.count [] l.bytes)
