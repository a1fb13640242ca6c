use Rattle.std.proofs.Common.{not, eqb}
use Rattle.std.proofs.lemmas.List.Filters.{FiltersInPlace}
use Rattle.stacks.proofs.stack.keep_others.Given as goal

-- the records kept so far stand in front, and what is left is as it was
abbrev pub invariant-loop-i : goal.invariant-loop-i
invariant-loop-i g l = FiltersInPlace (λ x. not (eqb (g.T.Owned.owner x) l.task)) l.initial.records l.records l.kept l.i
