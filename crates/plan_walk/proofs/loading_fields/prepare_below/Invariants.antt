use Rattle.gq_check.specs.Plans.{plan_of}
use Rattle.plan_walk.specs.Groups.{GrowsAlike}
use Rattle.plan_walk.proofs.loading_fields.prepare_below.Given as goal

abbrev pub invariant-loop-group : goal.invariant-loop-group
invariant-loop-group l = GrowsAlike (plan_of l.fn.walk.plan.now) l.fn.groups.items l.groups.items
