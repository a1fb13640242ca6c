-- Ceilings and bounds, the laws that they keep, and the reasons given for them. docs/RULES.md has them in words. Assumes nothing.
use Rattle.std.specs.Prelude.{◌≡◌, ℕ, ◌≤◌, min, max, Bool, true, cond, ◌&&◌, List, [], ◌∷◌, Some, None, Option, ◌==◌, nat_le, nat_lt}
use Rattle.std.specs.List.{ContainsAt, find}
use Rattle.rules.specs.Meaning.{Meaning}
use Rattle.plans.specs.Contents.{Contents, budget_of}
use Rattle.plans.specs.declared.parts.Use.{Use}

-- the use is of this object, in a mode that clashes with the held one
abbrev pub excluded : Meaning → ℕ → ℕ → Use → Bool
excluded m object held u = u.object == object && m.clashes held u.mode

-- the smallest number of a task with an excluded use, and 16, past every task, where there is none
abbrev pub ceiling : Meaning → List Use → ℕ → ℕ → ℕ
ceiling m [] object held = 16
ceiling m (u ∷ us) object held = let rest = ceiling m us object held in cond (excluded m object held u) (min u.task rest) rest

-- the use is of a lower task, and its ceiling is at most this task's number
abbrev pub delays : Meaning → List Use → ℕ → Use → Bool
delays m uses task u = nat_lt task u.task && nat_le (ceiling m uses u.object u.mode) task

-- the greatest budget of a task with such a use, and 0 where there is none
abbrev pub bound_over : Meaning → Contents → ℕ → List Use → ℕ
bound_over m plan task [] = 0
bound_over m plan task (u ∷ us) = let rest = bound_over m plan task us in cond (delays m plan.uses task u) (max (budget_of plan u.task) rest) rest

abbrev pub bound : Meaning → Contents → ℕ → ℕ
bound m plan task = bound_over m plan task plan.uses

-- the use is excluded, and its task is this one
abbrev pub attains : Meaning → ℕ → ℕ → ℕ → Use → Bool
attains m object held c u = excluded m object held u && u.task == c

-- the reason for a ceiling: the first use that attains it
abbrev pub ceiling_reason : Meaning → List Use → ℕ → ℕ → Option Use
ceiling_reason m uses object held = find (attains m object held (ceiling m uses object held)) uses

-- the use delays the task, and the budget of its own task is this one
abbrev pub costs : Meaning → Contents → ℕ → ℕ → Use → Bool
costs m plan task b u = delays m plan.uses task u && budget_of plan u.task == b

-- the reason for a bound: the first use that costs it
abbrev pub bound_reason : Meaning → Contents → ℕ → Option Use
bound_reason m plan task = find (costs m plan task (bound m plan task)) plan.uses

-- the law of a ceiling c and of the use that is given as its reason, for an object held in a mode
pub record CeilingLaw (m : Meaning) (uses : List Use) (object held c : ℕ) (reason : Option Use) : Type 0 where
  -- no excluded use has a smaller task
  pub least : (u : Use) → ContainsAt uses u → excluded m object held u ≡ true → c ≤ u.task
  -- the reason is an excluded use of the plan, and its task is the ceiling
  pub attained : (u : Use) → reason ≡ Some u → ContainsAt uses u × (excluded m object held u ≡ true) × (u.task ≡ c)
  -- without a reason the ceiling is 16: no task has an excluded use, since tasks are below 16
  pub free : reason ≡ None → c ≡ 16

-- the law of a bound b and of the use that is given as its reason
pub record BoundLaw (m : Meaning) (plan : Contents) (task b : ℕ) (reason : Option Use) : Type 0 where
  -- no use that delays the task belongs to a task with a greater budget
  pub greatest : (u : Use) → ContainsAt plan.uses u → delays m plan.uses task u ≡ true → budget_of plan u.task ≤ b
  -- the reason is a use of the plan that delays the task, and the budget of its task is the bound
  pub attained : (u : Use) → reason ≡ Some u → ContainsAt plan.uses u × (delays m plan.uses task u ≡ true) × (budget_of plan u.task ≡ b)
  -- without a reason the bound is 0
  pub free : reason ≡ None → b ≡ 0
