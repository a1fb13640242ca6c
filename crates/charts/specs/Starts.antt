-- The cells when a manager begins. Assumes nothing.
use Rattle.std.specs.Prelude.{List, ◌++◌, length, drop, ℤ}
use Rattle.std.specs.List.{flat_map}
use Rattle.plans.specs.declared.parts.Object.{Object}

-- the objects' start values in front, the cells behind them as they were
abbrev pub started : List Object → List ℤ → List ℤ
started objects cells = let starts = flat_map (λ (o : Object). o.start) objects in starts ++ drop (length starts) cells
