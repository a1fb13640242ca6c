-- One record more is kept or passed over.
use Rattle.std.proofs.Common.{arith}
use Rattle.std.proofs.lemmas.Grind.{common_steps}
use Rattle.std.proofs.lemmas.List.Filters.{FiltersInPlace-more_no, FiltersInPlace-more_set, FiltersInPlace-all}
use Rattle.stacks.proofs.stack.keep_others.Goals as goal

pub loop-i-preserved : goal.loop-i-preserved
loop-i-preserved g c = grind (arith, common_steps, FiltersInPlace-more_no, FiltersInPlace-more_set)

pub returns : goal.returns
returns g c = grind (arith, common_steps, FiltersInPlace-all)
