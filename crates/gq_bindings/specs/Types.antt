-- Definitions of which types of fields and arguments a binding fits.
use Rattle.std.specs.Prelude.{ℕ, Bool, false, not, ◌||◌, List, codes, bytes_eq}
use Rattle.std.specs.Option.{option_map_or}
use Rattle.gq_parser.specs.Tree.{TypeTree, Named, ListOf}
use Rattle.schema_syntax.specs.Tree.{Argument, Field, Definition}
use Rattle.gq_schema.specs.Kinds.{is_leaf, is_object}
use Rattle.gq_schema.specs.Types.{kind_in, root_in}
use Rattle.gq_schema.specs.Implements.{argument_in}

abbrev pub is_object_type : List Definition → List ℕ → Bool
is_object_type defs ty = option_map_or is_object (kind_in defs ty) false

abbrev pub is_root_type : List Definition → List ℕ → Bool
is_root_type defs ty = bytes_eq ty (root_in defs)

-- a scalar or an enum, non-null or not
abbrev pub is_leaf_type : List Definition → TypeTree → Bool
is_leaf_type defs (Named p n non_null) = option_map_or is_leaf (kind_in defs n) false
is_leaf_type defs (ListOf p t non_null) = false

-- an object type, an interface or a union, non-null or not
abbrev pub is_composite_type : List Definition → TypeTree → Bool
is_composite_type defs (Named p n non_null) =
    option_map_or (λ k. not (is_leaf k)) (kind_in defs n) false
is_composite_type defs (ListOf p t non_null) = false

abbrev pub is_composite_list : List Definition → TypeTree → Bool
is_composite_list defs (Named p n non_null) = false
is_composite_list defs (ListOf p t non_null) = is_composite_type defs t

-- Int, ID or String, non-null or not
abbrev pub is_key_type : TypeTree → Bool
is_key_type (Named p n non_null) =
    bytes_eq n (codes "Int") || (bytes_eq n (codes "ID") || bytes_eq n (codes "String"))
is_key_type (ListOf p t non_null) = false

abbrev pub is_key_list : TypeTree → Bool
is_key_list (Named p n non_null) = false
is_key_list (ListOf p t non_null) = is_key_type t

-- the field has an argument of this name, and of such a type
abbrev pub takes : (TypeTree → Bool) → Field → List ℕ → Bool
takes suits field name =
    option_map_or (λ (a : Argument). suits a.of_type) (argument_in field.arguments name) false
