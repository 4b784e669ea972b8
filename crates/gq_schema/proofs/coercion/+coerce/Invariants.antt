use Rattle.std.proofs.Common.{◌≡◌, drop, map}
use Rattle.gq_parser.specs.Tree.{type_of, literal_of, values_of}
use Rattle.gq_schema.specs.Types.{tree_of}
use Rattle.gq_schema.specs.Inputs.{input_of, before}
use Rattle.gq_schema.specs.Coercion.{coerced, all_items}
use Rattle.gq_schema.proofs.coercion.+coerce.Given as goal

abbrev pub invariant-coerce_all-loop-literal : goal.invariant-coerce_all-loop-literal
invariant-coerce_all-loop-literal l =
    before (map input_of l.inputs.items) (all_items (coerced (tree_of l.schema) (type_of l.ty)) (values_of (map literal_of (drop l.literal-index l.literals))))
    ≡ all_items (coerced (tree_of l.schema) (type_of l.ty)) (values_of (map literal_of l.literals))
