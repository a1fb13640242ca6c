-- The limits of a plan say that the table has an entry for each use.
use Rattle.std.proofs.Common.{arith}
use Rattle.std.proofs.ByRecursion.{All-get_or}
use Rattle.plans.specs.Limits.{UseLimits}
use Rattle.plans.specs.Plans.{contents}
use Rattle.charts.proofs.planned.Planned.of.Goals as goal

pub users_of-users-requires : goal.users_of-users-requires
users_of-users-requires g c =
    let m = g.R.LockRule.meaning c.args.rule in
    let plan = contents c.args.plan in
    let modes = (g.met.R.LockRule.lawful c.args.rule).few_modes in
    rw c.uses.ensures (λ k d l. let there = All-get_or (UseLimits m plan) plan.uses k d l c.requires.uses_keep in (omega (arith, there.object_there, c.requires.few_objects), omega (arith, there.mode_there, modes)))
