use Rattle.std.proofs.Common.{◌≡◌, map, reverse, filter}
use Rattle.protocol.specs.Machine.{put_back, own_image}
use Rattle.stacks.proofs.records.put_back_own.Given as goal

-- the images so far, the newest first, are put back
abbrev pub invariant-loop-image : goal.invariant-loop-image
invariant-loop-image l = l.cells ≡ put_back (filter (own_image l.task) (reverse (map (λ i. i.now) l.yielded))) l.initial.cells
