-- Definitions of what two fields of a document are to each other (section 5.3.2).
use Rattle.std.specs.Prelude.{ℕ, Bool, true, false, not, ◌||◌, ◌&&◌, List, Option, Some, None, unwrap_or, is_some, codes, bytes_eq}
use Rattle.std.specs.Option.{option_map_or, option_and_then}
use Rattle.gq_parser.specs.Tree.{TypeTree, Named, ListOf}
use Rattle.schema_syntax.specs.Tree.{Definition}
use Rattle.schema_syntax.specs.Tree as schema
use Rattle.gq_schema.specs.Kinds.{is_object}
use Rattle.gq_schema.specs.Types.{kind_in}
use Rattle.rules_parts.specs.Parts.{FieldPart}
use Rattle.rules_parts.specs.Parents.{composite_in}
use Rattle.merging_arguments.specs.Same.{same_bool, same_arguments}

-- ---- types

abbrev pub is_composite : List Definition → List ℕ → Bool
is_composite defs n = is_some (composite_in defs n)

-- tells whether the types are the same, or differ only in the names of composite types (SameResponseShape, 1 to 5)
abbrev pub same_shape : List Definition → TypeTree → TypeTree → Bool
same_shape defs (Named p n b) (Named q m c) =
    same_bool b c && (bytes_eq n m || (is_composite defs n && is_composite defs m))
same_shape defs (ListOf p t b) (ListOf q u c) = same_bool b c && same_shape defs t u
same_shape defs _ _ = false

-- the return type of a field; `__typename` has none among the definitions, and is a `String!` (section 4.4)
abbrev pub return_type : FieldPart → TypeTree
return_type f = option_map_or (λ (d : schema.Field). d.of_type) f.definition
    (Named f.place (codes "String") true)

-- ---- two fields

-- the alias, or the name where there is none (section 2.7)
abbrev pub response_key : FieldPart → List ℕ
response_key f = unwrap_or f.alias f.name

abbrev pub have_one_key : FieldPart → FieldPart → Bool
have_one_key x y = bytes_eq (response_key x) (response_key y)

abbrev pub are_alike : List Definition → FieldPart → FieldPart → Bool
are_alike defs x y = same_shape defs (return_type x) (return_type y)

abbrev pub same_parent : Option (List ℕ) → Option (List ℕ) → Bool
same_parent None None = true
same_parent (Some n) (Some m) = bytes_eq n m
same_parent _ _ = false

abbrev pub is_object_parent : List Definition → FieldPart → Bool
is_object_parent defs f = option_map_or is_object (option_and_then (kind_in defs) f.parent) false

-- both parent types are equal, or either isn't an object type
abbrev pub may_meet : List Definition → FieldPart → FieldPart → Bool
may_meet defs x y = same_parent x.parent y.parent
    || (not (is_object_parent defs x) || not (is_object_parent defs y))

-- names and arguments are equal
abbrev pub do_agree : FieldPart → FieldPart → Bool
do_agree x y = bytes_eq x.name y.name && same_arguments x.arguments y.arguments
