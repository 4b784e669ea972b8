-- Definitions of what the definitions of a schema say of a name (sections 3.4 to 3.9). A schema is the list of its
-- definitions, in the order of the text. Where several definitions have one name, the first counts; no schema that is
-- accepted has such.
use Rattle.std.specs.Prelude.{ℕ, Bool, true, false, ◌&&◌, ◌||◌, not, List, [], ◌∷◌, ◌++◌, map, filter, find, fold, Option, Some, None, codes, bytes_eq, unwrap_or, if◌then◌else◌}
use Rattle.std.specs.List.{list_any}
use Rattle.std.specs.Option.{option_and_then, option_map_or}
use Rattle.gq_parser.specs.Tree.{TypeTree, Named, ListOf}
use Rattle.gq_parser.specs.Types.{named_of, named_place}
pub use Rattle.gq_parser.specs.Types.{is_non_null}
use Rattle.schema_syntax.specs.declared.tree.Definition as rust
use Rattle.schema_syntax.specs.Tree.{Name, Argument, Field, Definition, definition_of, Schema, Object, Interface, Union, Enum}
use Rattle.gq_schema.specs.declared.kind.TypeKind.{TypeKind}
use Rattle.gq_schema.specs.declared.kind.TypeKind.TheVariants as kind
use Rattle.gq_schema.specs.Kinds.{is_leaf}
use Rattle.gq_schema.specs.Scan.{first_in}

-- gives what the program's definitions say
abbrev pub tree_of : List rust.Definition → List Definition
tree_of ds = map definition_of ds

-- the name has this text
abbrev pub is_called : List ℕ → Name → Bool
is_called q n = bytes_eq q n.text

-- ---- types

-- the scalars that each schema has (section 3.5)
abbrev pub is_built_in : List ℕ → Bool
is_built_in q = bytes_eq q (codes "Int")
    || (bytes_eq q (codes "String") || (bytes_eq q (codes "Boolean") || bytes_eq q (codes "ID")))

-- the type that a definition defines
abbrev pub type_name : Definition → Option Name
type_name (Schema p n) = None
type_name (Object n is fs) = Some n
type_name (Interface n fs) = Some n
type_name (Union n ms) = Some n
type_name (Enum n vs) = Some n

-- the definition defines the type q
abbrev pub defines : List ℕ → Definition → Bool
defines q d = option_map_or (is_called q) (type_name d) false

-- the definition of the type q
abbrev pub type_in : List Definition → List ℕ → Option Definition
type_in defs q = find (defines q) defs

abbrev pub kind_of : Definition → Option TypeKind
kind_of (Schema p n) = None
kind_of (Object n is fs) = Some kind.Object
kind_of (Interface n fs) = Some kind.Interface
kind_of (Union n ms) = Some kind.Union
kind_of (Enum n vs) = Some kind.Enum

-- gives what the type q is, where there is such a type
abbrev pub kind_in : List Definition → List ℕ → Option TypeKind
kind_in defs q =
    if is_built_in q then Some kind.Scalar else option_and_then kind_of (type_in defs q)

-- ---- fields, arguments and values

abbrev pub own_fields : Definition → List Field
own_fields (Object n is fs) = fs
own_fields (Interface n fs) = fs
own_fields _ = []

-- the fields of the type q
abbrev pub fields_in : List Definition → List ℕ → List Field
fields_in defs q = option_map_or own_fields (type_in defs q) []

abbrev pub is_field : List ℕ → Field → Bool
is_field q f = is_called q f.name

-- the field of this name that the type ty has
abbrev pub field_in : List Definition → List ℕ → List ℕ → Option Field
field_in defs ty name = find (is_field name) (fields_in defs ty)

abbrev pub is_argument : List ℕ → Argument → Bool
is_argument q a = is_called q a.name

abbrev pub own_values : Definition → List Name
own_values (Enum n vs) = vs
own_values _ = []

-- the enum q has this value
abbrev pub has_value : List Definition → List ℕ → List ℕ → Bool
has_value defs q v = list_any (is_called v) (option_map_or own_values (type_in defs q) [])

-- ---- the root

abbrev pub root_of : Definition → Option (List ℕ)
root_of (Schema p n) = Some n.text
root_of _ = None

-- the type that `schema` names
abbrev pub declared_root : List Definition → Option (List ℕ)
declared_root = first_in root_of

abbrev pub query : List ℕ
query = codes "Query"

-- the type that queries begin at: the one that `schema` names, else `Query`
abbrev pub root_in : List Definition → List ℕ
root_in defs = unwrap_or (declared_root defs) query

-- ---- possible types (section 5.5.2.3)

-- the union q, which has the member o
abbrev pub has_member : List ℕ → List ℕ → Definition → Bool
has_member q o (Union n ms) = bytes_eq q n.text && list_any (is_called o) ms
has_member q o _ = false

-- The definition is of an object type that is the type q, implements it, or is a member of it.
abbrev pub is_possible : List Definition → List ℕ → Definition → Bool
is_possible defs q (Object n is fs) =
    bytes_eq q n.text || (list_any (is_called q) is || list_any (has_member q n.text) defs)
is_possible defs q _ = false

-- these names, with one more after them, unless it is there
abbrev pub with_name : List (List ℕ) → List ℕ → List (List ℕ)
with_name names n = if list_any (bytes_eq n) names then names else names ++ n ∷ []

abbrev pub with_type : List (List ℕ) → Definition → List (List ℕ)
with_type names d = option_map_or (λ (n : Name). with_name names n.text) (type_name d) names

-- the object types that the type q can be, in the order of their definitions
abbrev pub possible_names : List Definition → List ℕ → List (List ℕ)
possible_names defs q = fold with_type [] (filter (is_possible defs q) defs)

-- gives the same, where q is an object type, an interface or a union
abbrev pub possible_in : List Definition → List ℕ → Option (List (List ℕ))
possible_in defs q =
    option_and_then (λ k. if is_leaf k then None else Some (possible_names defs q)) (kind_in defs q)

-- an object type of this name is a possible type of the type q
abbrev pub can_be : List Definition → List ℕ → List ℕ → Bool
can_be defs q name = list_any (λ d. defines name d && is_possible defs q d) defs

-- ---- types with wrappers (section 3.4.1)

-- Covariant (section 3.6, IsValidImplementationFieldType): equal; an object type for an interface that it implements or a
-- union that has it; a list for a list with covariant items; a non-null type for a type, or a non-null type, of which
-- the unwrapped one is covariant.
abbrev pub is_covariant : List Definition → TypeTree → TypeTree → Bool
is_covariant defs (Named p n non_null) (Named q m wanted) =
    (non_null || not wanted) && (bytes_eq n m || can_be defs m n)
is_covariant defs (ListOf p t non_null) (ListOf q u wanted) =
    (non_null || not wanted) && is_covariant defs t u
is_covariant defs _ _ = false

abbrev pub is_same_flag : Bool → Bool → Bool
is_same_flag true b = b
is_same_flag false b = not b

abbrev pub is_same_type : TypeTree → TypeTree → Bool
is_same_type (Named p n non_null) (Named q m wanted) = is_same_flag non_null wanted && bytes_eq n m
is_same_type (ListOf p t non_null) (ListOf q u wanted) =
    is_same_flag non_null wanted && is_same_type t u
is_same_type _ _ = false

-- the name at the core of a type, with its place
abbrev pub core_of : TypeTree → Name
core_of t = record { text = named_of t; place = named_place t }
