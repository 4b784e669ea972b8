-- Leaf Field Selections (section 5.3.3).
use Rattle.std.specs.Prelude.{Bool, true, false, not, List, Option, Some, filter_map, if◌then◌else◌}
use Rattle.std.specs.Option.{option_and_then, option_map_or}
use Rattle.gq_parser.specs.Tree.{Below, nothing_below, below}
use Rattle.schema_syntax.specs.Tree.{Definition, Field}
use Rattle.gq_schema.specs.declared.kind.TypeKind.{TypeKind}
use Rattle.gq_schema.specs.declared.kind.TypeKind.TheVariants.{Scalar}
use Rattle.gq_schema.specs.Kinds.{is_leaf}
use Rattle.gq_schema.specs.Types.{kind_in, core_of}
use Rattle.rules_parts.specs.Broken.{BrokenOf}
use Rattle.rules_parts.specs.Parts.{FieldPart, PartsOf}
use Rattle.rules_typed.specs.DefaultWords.{named_if, is_type_name}

-- Gives what the field's type is, without lists and `!`, where the field is known; `__typename` is a
-- String.
abbrev pub kind_of_field : List Definition → FieldPart → Option TypeKind
kind_of_field defs f = if is_type_name f then Some Scalar
    else option_and_then (λ (d : Field). kind_in defs (core_of d.of_type).text) f.definition

abbrev pub has_set : Below → Bool
has_set nothing_below = false
has_set (below s) = true

-- a scalar or an enum with a selection set, or a composite type without
abbrev pub is_misfit : Below → TypeKind → Bool
is_misfit b k = if is_leaf k then has_set b else not (has_set b)

abbrev pub misfit_field : List Definition → FieldPart → Option BrokenOf
misfit_field defs f =
    named_if (option_map_or (is_misfit f.below) (kind_of_field defs f) false) f.name f.place

-- the leaves with a selection set, and the composite fields without
abbrev pub leaf_field_selections : PartsOf → List BrokenOf
leaf_field_selections p = filter_map (misfit_field p.definitions) p.fields
