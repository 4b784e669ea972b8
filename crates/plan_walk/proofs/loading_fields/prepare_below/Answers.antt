use Rattle.gq_check.specs.Plans.{plan_of}
use Rattle.plan_program.specs.OtherVariables.{with_variables}
use Rattle.plan_walk.proofs.Grouping.{grows-self, grows-then}
use Rattle.plan_walk.proofs.loading_fields.prepare_below.Goals as goal

pub loop-group-init : goal.loop-group-init
loop-group-init c = λ vs agrees. grows-self (with_variables (plan_of c.args.walk.now.plan.now) vs) c.args.groups.now.items

pub loop-group-preserved : goal.loop-group-preserved
loop-group-preserved c = λ vs agrees.
    grows-then (with_variables (plan_of c.args.walk.now.plan.now) vs) c.args.groups.now.items c.loop-group.groups.items c.prepare_only.new.groups.items (c.loop-group.invariant vs agrees) (c.in_ok-members.ensures vs agrees)
