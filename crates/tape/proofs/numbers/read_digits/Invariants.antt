-- What is left goes on from the number so far, which is within its limit.
use Rattle.std.proofs.Common.{◌≡◌, ◌≤◌, length}
use Rattle.tape.specs.Numbers.{digits_after}
use Rattle.tape.proofs.numbers.read_digits.Given as goal

abbrev pub invariant-loop-rest : goal.invariant-loop-rest
invariant-loop-rest l = (digits_after l.most l.number l.rest ≡ digits_after l.most 0 l.bytes) × (l.number ≤ l.most)

abbrev pub decreases-loop-rest : goal.decreases-loop-rest
decreases-loop-rest l = length l.rest
