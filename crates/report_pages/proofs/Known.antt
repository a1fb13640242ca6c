-- What is known of a bound's reason, and of a number that no rule has. Assumes nothing.
use Rattle.std.proofs.Common.{◌≡◌, ℕ, List, Some, None, Ok, Err, Option, Result, IsErrAnd, MatchResult, refl}
use Rattle.std.proofs.ByRecursion.{all-has}
use Rattle.rules.specs.Meaning.{Meaning}
use Rattle.plans.specs.Contents.{Contents}
use Rattle.plans.specs.Ceilings.{BoundLaw}
use Rattle.plans.specs.Limits.{Limits, UseLimits}
use Rattle.plans.specs.declared.parts.Use.{Use}
use Rattle.plans.specs.declared.refusal.Refusal.{Refusal}
use Rattle.plans.specs.declared.refusal.Refusal.TheVariants.{NumberNotThere}
use Rattle.report_pages.specs.Reports.{ReasonThere, refused_text}

module _ (m : Meaning) (plan : Contents) where
  -- the reason for a bound is a use of the plan
  pub reason_there : (task b : ℕ) (reason : Option Use) → Limits m plan → BoundLaw m plan task b reason → ReasonThere m plan reason
  reason_there task b None keep law = tt
  reason_there task b (Some u) keep law = let there = all-has (UseLimits m plan) plan.uses u keep.uses_keep (law.attained u refl).0 in (there.object_there, there.mode_there)

-- a refusal for the number is told
pub told_as_err : {T : Type 0} (P : T → Type 0) (text : List ℕ) (r : Result T Refusal) → IsErrAnd r (λ why. why ≡ NumberNotThere) → text ≡ refused_text NumberNotThere → MatchResult r P (λ why. text ≡ refused_text why)
told_as_err P text (Ok x) is known = absurd is
told_as_err P text (Err why) is known = rw is known
