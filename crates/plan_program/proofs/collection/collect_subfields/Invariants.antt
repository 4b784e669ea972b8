use Rattle.std.proofs.Common.{◌≡◌, drop, map}
use Rattle.gq_parser.specs.Tree.{below_of}
use Rattle.gq_check.specs.Plans.{plan_of}
use Rattle.plan_program.specs.Groups.{collect_subfields, nothing_collected}
use Rattle.plan_program.specs.Collecting.{collected_of}
use Rattle.plan_program.proofs.collection.collect_subfields.Given as goal

abbrev pub invariant-loop-set : goal.invariant-loop-set
invariant-loop-set l =
    collect_subfields (plan_of l.plan) l.ty (collected_of l.collected) (map below_of (drop l.set-index l.below)) ≡ collect_subfields (plan_of l.plan) l.ty nothing_collected (map below_of l.below)
