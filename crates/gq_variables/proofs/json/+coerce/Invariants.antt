use Rattle.std.proofs.Common.{◌≡◌, drop, map}
use Rattle.serde_json.specs.View.{items_view}
use Rattle.gq_parser.specs.Tree.{type_of}
use Rattle.gq_schema.specs.Types.{tree_of}
use Rattle.gq_schema.specs.Inputs.{input_of, before}
use Rattle.gq_variables.specs.JsonCoercion.{all_data, data_input}
use Rattle.gq_variables.proofs.json.+coerce.Given as goal

abbrev pub invariant-coerce_all-loop-value : goal.invariant-coerce_all-loop-value
invariant-coerce_all-loop-value l =
    before (map input_of l.inputs.items) (all_data (data_input (tree_of l.schema) (type_of l.ty)) (items_view (drop l.value-index l.values)))
    ≡ all_data (data_input (tree_of l.schema) (type_of l.ty)) (items_view l.values)
