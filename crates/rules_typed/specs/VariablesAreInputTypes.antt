-- Variables Are Input Types (section 5.8.2).
use Rattle.std.specs.Prelude.{Bool, false, ◌&&◌, not, List, filter_map, Option}
use Rattle.std.specs.Option.{option_map_or}
use Rattle.gq_parser.specs.Tree.{TypeTree, Named, ListOf}
use Rattle.gq_parser.specs.Types.{is_list}
use Rattle.schema_syntax.specs.Tree.{Definition}
use Rattle.gq_schema.specs.Kinds.{is_leaf}
use Rattle.gq_schema.specs.Types.{kind_in, core_of}
use Rattle.rules_parts.specs.Broken.{BrokenOf}
use Rattle.rules_parts.specs.Parts.{VariablePart, PartsOf}
use Rattle.rules_typed.specs.DefaultWords.{named_if}

abbrev pub is_list_of_lists : TypeTree → Bool
is_list_of_lists (Named p n non_null) = false
is_list_of_lists (ListOf p t non_null) = is_list t

-- The name at its core is that of a scalar or an enum of the schema.
abbrev pub is_of_leaf : List Definition → TypeTree → Bool
is_of_leaf defs t = option_map_or is_leaf (kind_in defs (core_of t).text) false

-- a scalar, an enum or a list of these (IsInputType); lists of lists aren't served
abbrev pub is_input_type : List Definition → TypeTree → Bool
is_input_type defs t = is_of_leaf defs t && not (is_list_of_lists t)

abbrev pub non_input_variable : List Definition → VariablePart → Option BrokenOf
non_input_variable defs v =
    named_if (not (is_input_type defs v.definition.of_type)) v.definition.name v.definition.place

-- the variables that aren't of an input type
abbrev pub variables_are_input_types : PartsOf → List BrokenOf
variables_are_input_types p = filter_map (non_input_variable p.definitions) p.variables
