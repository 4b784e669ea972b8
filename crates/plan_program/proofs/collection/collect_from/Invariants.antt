use Rattle.std.proofs.Common.{◌≡◌, ◌+◌, Some}
use Rattle.gq_parser.specs.Tree.{map_selections}
use Rattle.gq_check.specs.Plans.{plan_of}
use Rattle.plan_program.specs.Groups.{collect_from}
use Rattle.plan_program.specs.Collecting.{collected_of, collect_left}
use Rattle.plan_program.specs.Steps.{steps_rest, all_steps}
use Rattle.plan_program.proofs.collection.collect_from.Given as goal

abbrev pub decreases-loop-left : goal.decreases-loop-left
decreases-loop-left l = all_steps (plan_of l.plan).fragments l.left.items + steps_rest (plan_of l.plan).fragments l.rest

abbrev pub invariant-loop-left : goal.invariant-loop-left
invariant-loop-left l =
    collect_left (plan_of l.plan) l.ty (collected_of l.so_far) (Some l.rest) l.left.items ≡ collect_from (plan_of l.plan) l.ty (collected_of l.fn.so_far) (map_selections l.fn.selections)
