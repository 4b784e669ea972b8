-- Definitions of what the rule compares of two fields, and the number that stands for it: that of the first field
-- that has the same.
use Rattle.std.specs.Prelude.{ℕ, Bool, List, unwrap_or}
use Rattle.schema_syntax.specs.Tree.{Definition}
use Rattle.gq_schema.specs.Places.{place_from}
use Rattle.rules_parts.specs.Parts.{FieldPart}
use Rattle.merging_fields.specs.declared.attributes.Attribute.{Attribute}
use Rattle.merging_fields.specs.declared.attributes.Attribute.TheVariants.{Key, Selected, Parent, Shape}
use Rattle.merging_fields.specs.Compare.{have_one_key, do_agree, same_parent, are_alike}

abbrev pub are_same : Attribute → List Definition → FieldPart → FieldPart → Bool
are_same Key defs x y = have_one_key x y
are_same Selected defs x y = do_agree x y
are_same Parent defs x y = same_parent x.parent y.parent
are_same Shape defs x y = are_alike defs x y

abbrev pub number_of : Attribute → List Definition → List FieldPart → FieldPart → ℕ
number_of attribute defs fields f = unwrap_or (place_from 0 (are_same attribute defs f) fields) 0
