use Rattle.gq_check.specs.Plans.{plan_of, plan_parts}
use Rattle.gq_check.proofs.Planning.{plan-chosen}
use Rattle.gq_check.proofs.plan.Plan.again.Goals as goal

pub with_values-requires : goal.with_values-requires
with_values-requires c =
    let own = c.self.inside in
    rw (c.in_ok-schema.ensures, c.in_ok-operation.ensures, c.in_ok-fragments.ensures)
    (plan-chosen (plan_of (plan_parts own.schema own.bindings own.operation own.fragments own.variables)) c.self.invariant)
