use Rattle.std.proofs.Common.{◌≡◌, drop, map, Some}
use Rattle.std.specs.Prelude.{is_some}
use Rattle.gq_parser.specs.Tree.{type_of, literal_of, values_of}
use Rattle.gq_schema.specs.Types.{tree_of}
use Rattle.gq_schema.specs.Inputs.{Null}
use Rattle.gq_schema.specs.Coercion.{value_with, all_items, list_input}
use Rattle.gq_schema.proofs.coercion.+accepts.Given as goal

abbrev pub invariant-accepts_all-loop-literal : goal.invariant-accepts_all-loop-literal
invariant-accepts_all-loop-literal l =
    is_some (list_input (all_items (value_with (Some Null) (tree_of l.schema) (type_of l.ty)) (values_of (map literal_of (drop l.literal-index l.literals)))))
    ≡ is_some (list_input (all_items (value_with (Some Null) (tree_of l.schema) (type_of l.ty)) (values_of (map literal_of l.literals))))
