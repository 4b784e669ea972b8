-- Definitions of what the search for possible types keeps.
use Rattle.std.specs.Prelude.{◌≡◌, ◌||◌, ◌&&◌, ◌++◌, ◌∷◌, ℕ, Bool, List, [], map, String, bytes_eq, string_bytes, if◌then◌else◌}
use Rattle.std.specs.Global.{Global, Vec}
use Rattle.std.specs.Borrow.{Bor}
use Rattle.std.specs.List.{list_any}
use Rattle.std.specs.Option.{option_map_or}
use Rattle.std.specs.HashMap.{HashMap, get_by, get_by_text}
use Rattle.schema_syntax.specs.declared.tree.Name as rust
use Rattle.schema_syntax.specs.declared.tree.ObjectDefinition as rust-object
use Rattle.schema_syntax.specs.declared.tree.UnionDefinition as rust-union
use Rattle.schema_syntax.specs.Tree.{Definition, names_of}
use Rattle.gq_schema.specs.Types.{is_called, with_name, with_type, is_possible, has_member}

-- the names that the map has for the type q
abbrev pub names_at : {S : Type 0}
    → HashMap (String Global) (List (List ℕ)) S → List ℕ → List (List ℕ)
names_at possible q = option_map_or (λ names. names) (get_by_text possible q) []

-- one more name, where b is true
abbrev pub with_name_if : Bool → List (List ℕ) → List ℕ → List (List ℕ)
with_name_if b names n = if b then with_name names n else names

-- the type q can be this object too, where b is true
abbrev pub CanBeIf : {S : Type 0} → Bool → List ℕ → rust.Name
    → HashMap (String Global) (List (List ℕ)) S → HashMap (String Global) (List (List ℕ)) S → Type 0
CanBeIf b q object old new = names_at new q
    ≡ with_name_if b (names_at old q) (string_bytes object.text)

abbrev pub text_of : Bor rust.Name → List ℕ
text_of n = string_bytes n.now.text

-- the name q is one of these
abbrev pub is_among : List ℕ → List (Bor rust.Name) → Bool
is_among q names = list_any (bytes_eq q) (map text_of names)

-- the unions that have the member o
abbrev pub unions_at : {S : Type 0}
    → HashMap (Bor (List ℕ)) (Vec (Bor rust.Name)) S → List ℕ → List (List ℕ)
unions_at unions o =
    map text_of (option_map_or (λ v. v.items) (get_by (λ k. bytes_eq o k.now) unions) [])

-- the map says that the union q has the member o
abbrev pub has_union : {S : Type 0}
    → HashMap (Bor (List ℕ)) (Vec (Bor rust.Name)) S → List ℕ → List ℕ → Bool
has_union unions o q = list_any (bytes_eq q) (unions_at unions o)

-- one more union, where b is true
abbrev pub with_union_if : Bool → rust.Name → List (List ℕ) → List (List ℕ)
with_union_if b union unions = if b then unions ++ string_bytes union.text ∷ [] else unions

-- the union is q and has the member o
abbrev pub is_union_with : rust-union.UnionDefinition → List ℕ → List ℕ → Bool
is_union_with union o q = bytes_eq q (string_bytes union.name.text)
    && list_any (is_called o) (names_of union.members.items)

-- the type q can be this object: it is the object itself, or an interface or a union of it
abbrev pub includes : {S : Type 0} → HashMap (Bor (List ℕ)) (Vec (Bor rust.Name)) S
    → List ℕ → rust-object.ObjectDefinition → Bool
includes unions q object =
    bytes_eq q (string_bytes object.name.text) || (list_any (is_called q)
    (names_of object.interfaces.items) || has_union unions (string_bytes object.name.text) q)

-- the map has the unions of each member that these definitions define
abbrev pub AreUnions : {S : Type 0}
    → HashMap (Bor (List ℕ)) (Vec (Bor rust.Name)) S → List Definition → Type 0
AreUnions unions defs = (o q : List ℕ) → has_union unions o q ≡ list_any (has_member q o) defs

-- these names, and that of the definition where it is a possible type of q
abbrev pub with_possible : List Definition → List ℕ → List (List ℕ) → Definition → List (List ℕ)
with_possible defs q names d = if is_possible defs q d then with_type names d else names

-- the map has these names for q, and that of one definition more where it is a possible type of q
abbrev pub AddsPossible : {S : Type 0} → List Definition → List ℕ → Definition
    → HashMap (String Global) (List (List ℕ)) S → HashMap (String Global) (List (List ℕ)) S → Type 0
AddsPossible defs q d old new = names_at new q ≡ with_possible defs q (names_at old q) d
