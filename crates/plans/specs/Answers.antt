-- What is answered when a ceiling or a bound is asked for. Assumes nothing.
use Rattle.std.specs.Prelude.{ℕ, cond, not, ◌||◌, length, Ok, Err, Result, nat_lt}
use Rattle.rules.specs.Meaning.{Meaning}
use Rattle.plans.specs.Contents.{Contents}
use Rattle.plans.specs.Ceilings.{ceiling, ceiling_reason, bound, bound_reason}
use Rattle.plans.specs.declared.ceilings.Ceiling.{Ceiling}
use Rattle.plans.specs.declared.ceilings.Bound.{Bound}
use Rattle.plans.specs.declared.refusal.Refusal.{Refusal}
use Rattle.plans.specs.declared.refusal.Refusal.TheVariants.{NumberNotThere}

-- the ceiling with its reason, or 9 where the object or the mode is not there
abbrev pub ceiling_answer : Meaning → Contents → ℕ → ℕ → Result Ceiling Refusal
ceiling_answer m plan object mode =
    cond (not (nat_lt object (length plan.objects)) || not (nat_lt mode m.modes)) (Err NumberNotThere)
    (Ok (record { value = ceiling m plan.uses object mode; reason = ceiling_reason m plan.uses object mode }))

-- the bound with its reason, or 9 where the task is not there
abbrev pub bound_answer : Meaning → Contents → ℕ → Result Bound Refusal
bound_answer m plan task =
    cond (not (nat_lt task (length plan.rows))) (Err NumberNotThere)
    (Ok (record { value = bound m plan task; reason = bound_reason m plan task }))
