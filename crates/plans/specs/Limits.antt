-- The limits that an accepted plan keeps. Assumes nothing.
use Rattle.std.specs.Prelude.{◌≡◌, ◌^◌, ◌<◌, ◌≤◌, List, [], ◌∷◌, length, FitsSigned}
use Rattle.std.specs.Int.{w32}
use Rattle.std.specs.List.{ContainsAt, AllByRecursion}
use Rattle.rules.specs.Meaning.{Meaning}
use Rattle.plans.specs.Contents.{Contents}
use Rattle.plans.specs.declared.parts.Object.{Object}
use Rattle.plans.specs.declared.parts.Row.{Row}
use Rattle.plans.specs.declared.parts.Use.{Use}

-- an object has a start value for each of its four parts, each a signed number of 32 bits
pub record ObjectLimits (o : Object) : Type 0 where
  pub four : length o.start ≡ 4
  pub signed : AllByRecursion (FitsSigned w32) o.start

-- an instance may run at least a tick and at most its period, a number of 16 bits
pub record RowLimits (row : Row) : Type 0 where
  pub some : 1 ≤ row.budget
  pub within : row.budget ≤ row.period
  pub short : row.period < 2 ^ 16

-- no period is smaller than the one before it
abbrev pub NotFalling : List Row → Type 0
NotFalling [] = Unit {0}
NotFalling (row ∷ []) = Unit {0}
NotFalling (row ∷ (next ∷ rows)) = (row.period ≤ next.period) × NotFalling (next ∷ rows)

-- the task, the object and the mode of a use are there
pub record UseLimits (m : Meaning) (plan : Contents) (u : Use) : Type 0 where
  pub task_there : u.task < length plan.rows
  pub object_there : u.object < length plan.objects
  pub mode_there : u.mode < m.modes

-- no element stands twice
abbrev pub Distinct : {X : Type 0} → List X → Type 0
Distinct [] = Unit {0}
Distinct (x ∷ xs) = (ContainsAt xs x → ⊥) × Distinct xs

pub record Limits (m : Meaning) (plan : Contents) : Type 0 where
  pub some_object : 1 ≤ length plan.objects
  pub few_objects : length plan.objects ≤ 32
  pub some_task : 1 ≤ length plan.rows
  pub few_tasks : length plan.rows ≤ 16
  pub few_uses : length plan.uses ≤ 512
  pub objects_keep : AllByRecursion ObjectLimits plan.objects
  pub rows_keep : AllByRecursion RowLimits plan.rows
  pub not_falling : NotFalling plan.rows
  pub uses_keep : AllByRecursion (UseLimits m plan) plan.uses
  pub uses_once : Distinct plan.uses
