-- What a plan says: its objects, its rows, its uses. Assumes nothing.
use Rattle.std.specs.Prelude.{ℕ, List, slice_index_or}
use Rattle.plans.specs.declared.parts.Object.{Object}
use Rattle.plans.specs.declared.parts.Row.{Row}
use Rattle.plans.specs.declared.parts.Use.{Use}

-- each in the plan's order; an object, a task and a use go by their place, from 0
pub record Contents : Type 0 where
  pub objects : List Object
  pub rows : List Row
  pub uses : List Use

-- what stands for a row or a use that is not there
abbrev pub no_row : Row
no_row = record { period = 0; budget = 0 }

abbrev pub no_use : Use
no_use = record { task = 0; object = 0; mode = 0 }

-- the most ticks that one instance of the task may run
abbrev pub budget_of : Contents → ℕ → ℕ
budget_of plan task = (slice_index_or plan.rows task no_row).budget
