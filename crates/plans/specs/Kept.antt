-- The limits of a plan have one proof at most, so that they may be a ghost field. Assumes nothing.
use Rattle.std.specs.Prelude.{List, [], ◌∷◌}
use Rattle.std.specs.Coded.{×_prop, Unit-prop, le_prop}
use Rattle.std.proofs.Props.{props}
use Rattle.rules.specs.Meaning.{Meaning}
use Rattle.plans.specs.Contents.{Contents}
use Rattle.plans.specs.Limits.{Limits, NotFalling, Distinct}
use Rattle.plans.specs.declared.parts.Row.{Row}

NotFalling-prop : (rows : List Row) → IsProp (NotFalling rows)
NotFalling-prop [] = Unit-prop
NotFalling-prop (row ∷ []) = Unit-prop
NotFalling-prop (row ∷ (next ∷ rows)) = ×_prop le_prop (NotFalling-prop (next ∷ rows))

Distinct-prop : {X : Type 0} (xs : List X) → IsProp (Distinct xs)
Distinct-prop [] = Unit-prop
Distinct-prop (x ∷ xs) = ×_prop (Prim.hlevel props) (Distinct-prop xs)

pub Limits-prop : (m : Meaning) (plan : Contents) → IsProp (Limits m plan)
Limits-prop m plan = Prim.hlevel (props, NotFalling-prop, Distinct-prop)
