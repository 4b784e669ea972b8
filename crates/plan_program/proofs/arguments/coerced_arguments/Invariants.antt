use Rattle.std.proofs.Common.{◌≡◌, drop}
use Rattle.gq_parser.specs.Tree.{arguments_of}
use Rattle.schema_syntax.specs.Tree.{arguments_of as arguments_defined}
use Rattle.gq_check.specs.Plans.{plan_of}
use Rattle.plan_program.specs.Arguments.{coerced_arguments, values_before}
use Rattle.plan_program.specs.Seen.{values_of}
use Rattle.plan_program.proofs.arguments.coerced_arguments.Given as goal

abbrev pub invariant-loop-argument : goal.invariant-loop-argument
invariant-loop-argument l =
    values_before (values_of l.args) (coerced_arguments (plan_of l.plan) (arguments_of l.given) (arguments_defined (drop l.argument-index l.arguments)))
    ≡ coerced_arguments (plan_of l.plan) (arguments_of l.given) (arguments_defined l.arguments)
