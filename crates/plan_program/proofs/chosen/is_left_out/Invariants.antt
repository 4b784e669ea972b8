use Rattle.std.proofs.Common.{◌≡◌, drop}
use Rattle.gq_parser.specs.Tree.{directives_of}
use Rattle.gq_check.specs.Plans.{plan_of}
use Rattle.plan_program.specs.Chosen.{is_left_out}
use Rattle.plan_program.proofs.chosen.is_left_out.Given as goal

abbrev pub invariant-loop-directive : goal.invariant-loop-directive
invariant-loop-directive l = is_left_out (plan_of l.plan) (directives_of (drop l.directive-index l.directives)) ≡ is_left_out (plan_of l.plan) (directives_of l.directives)
