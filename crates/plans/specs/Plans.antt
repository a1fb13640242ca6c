-- What a plan holds. Assumes nothing.
use Rattle.plans.specs.Contents.{Contents}
use Rattle.plans.specs.declared.plan.Plan.{Plan}

abbrev pub contents : Plan → Contents
contents p = record { objects = p.objects.items; rows = p.rows.items; uses = p.uses.items }
