use Rattle.gq_check.specs.Plans.{plan_of}
use Rattle.gq_resolve.proofs.Reusing.{made-reusable}
use Rattle.gq_resolve.proofs.prepared_plan.PreparedPlan.new.Goals as goal

pub invariant_of-result : goal.invariant_of-result
invariant_of-result c = made-reusable (plan_of c.args.plan) c.in_ok-rooted.rooted c.shrink_to_fit.new.self c.in_ok-rooted.ensures.rooted c.in_ok-rooted.ensures.made (rw c.shrink_to_fit.ensures.items c.in_ok-prepare_below.ensures)
