-- Field Selections (section 5.3.1).
use Rattle.std.specs.Prelude.{Bool, ◌&&◌, ◌||◌, not, is_some, List, Option, filter_map}
use Rattle.rules_parts.specs.Broken.{BrokenOf}
use Rattle.rules_parts.specs.Parts.{FieldPart, PartsOf}
use Rattle.rules_typed.specs.DefaultWords.{named_if, is_type_name}

-- The parent type is known, and has no such field.
abbrev pub is_unknown : FieldPart → Bool
is_unknown f = is_some f.parent && not (is_some f.definition || is_type_name f)

abbrev pub unknown_field : FieldPart → Option BrokenOf
unknown_field f = named_if (is_unknown f) f.name f.place

-- the fields that their parent types don't have
abbrev pub field_selections : PartsOf → List BrokenOf
field_selections p = filter_map unknown_field p.fields
