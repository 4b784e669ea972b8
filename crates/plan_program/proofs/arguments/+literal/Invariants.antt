use Rattle.std.proofs.Common.{◌≡◌, drop, map}
use Rattle.gq_parser.specs.Tree.{type_of, literal_of, values_of}
use Rattle.gq_schema.specs.Inputs.{input_of, before}
use Rattle.gq_schema.specs.Coercion.{all_items}
use Rattle.gq_check.specs.Plans.{plan_of}
use Rattle.plan_program.specs.Arguments.{literal_value}
use Rattle.plan_program.proofs.arguments.+literal.Given as goal

abbrev pub invariant-list_value-loop-literal : goal.invariant-list_value-loop-literal
invariant-list_value-loop-literal l =
    before (map input_of l.inputs.items) (all_items (literal_value (plan_of l.plan) (type_of l.ty)) (values_of (map literal_of (drop l.literal-index l.literals))))
    ≡ all_items (literal_value (plan_of l.plan) (type_of l.ty)) (values_of (map literal_of l.literals))
