-- Argument Names (section 5.4.1).
use Rattle.std.specs.Prelude.{Bool, ◌&&◌, not, is_some, List, [], ◌++◌, map, flat_map, filter_map, Option, if◌then◌else◌}
use Rattle.gq_parser.specs.Tree.{Argument}
use Rattle.rules_parts.specs.Broken.{BrokenOf}
use Rattle.rules_parts.specs.Parts.{FieldPart, ArgumentPart, PartsOf}
use Rattle.rules_typed.specs.DefaultWords.{named_if, is_type_name}

-- The field or directive is known, and has no argument of this name.
abbrev pub is_unknown : ArgumentPart → Bool
is_unknown a = a.is_known && not (is_some a.definition)

abbrev pub unknown_argument : ArgumentPart → Option BrokenOf
unknown_argument a = named_if (is_unknown a) a.name a.place

abbrev pub broken_argument : Argument → BrokenOf
broken_argument a = record { name = a.name; place = a.place }

-- `__typename` has no arguments.
abbrev pub type_name_arguments : FieldPart → List BrokenOf
type_name_arguments f = if is_type_name f then map broken_argument f.arguments else []

-- the arguments that their fields or directives don't define
abbrev pub argument_names : PartsOf → List BrokenOf
argument_names p = filter_map unknown_argument p.arguments ++ flat_map type_name_arguments p.fields
