-- Values of Correct Type (section 5.6.1).
use Rattle.std.specs.Prelude.{Bool, ◌&&◌, not, List, ◌++◌, filter_map, Option, codes}
use Rattle.std.specs.Option.{option_and_then}
use Rattle.gq_parser.specs.Tree.{TypeTree, Value, VariableDefinition}
use Rattle.schema_syntax.specs.Tree.{Definition, Argument}
use Rattle.gq_schema.specs.Coercion.{accepts, place_of}
use Rattle.rules_parts.specs.Broken.{BrokenOf}
use Rattle.rules_parts.specs.Parts.{ArgumentPart, VariablePart, PartsOf}
use Rattle.rules_typed.specs.DefaultWords.{named_if}
use Rattle.rules_typed.specs.VariablesAreInputTypes.{is_of_leaf}

-- An argument's literal isn't of the argument's type, whatever its variables are. Where the argument has no definition, that is the
-- matter of another rule.
abbrev pub wrong_argument : List Definition → ArgumentPart → Option BrokenOf
wrong_argument defs a = option_and_then (λ (d : Argument).
    named_if (not (accepts defs d.of_type a.value)) a.name (place_of a.value)) a.definition

-- The default isn't of the variable's type. Where the name at the core of that type isn't that of a scalar or an enum, that is
-- the matter of another rule.
abbrev pub is_wrong : List Definition → TypeTree → Value → Bool
is_wrong defs t v = is_of_leaf defs t && not (accepts defs t v)

abbrev pub wrong_default : List Definition → VariableDefinition → Option BrokenOf
wrong_default defs v = option_and_then (λ (d : Value).
    named_if (is_wrong defs v.of_type d) (codes "$" ++ v.name) (place_of d)) v.default

abbrev pub wrong_variable : List Definition → VariablePart → Option BrokenOf
wrong_variable defs v = wrong_default defs v.definition

-- the arguments' literals, and then the variables' defaults, that aren't of their types
abbrev pub values_of_correct_type : PartsOf → List BrokenOf
values_of_correct_type p = filter_map (wrong_argument p.definitions) p.arguments
    ++ filter_map (wrong_variable p.definitions) p.variables
