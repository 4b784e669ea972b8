-- Definitions of what a reference to a type says (section 3.4.1).
use Rattle.std.specs.Prelude.{ℕ, Bool, true, false, List}
use Rattle.text_place.specs.declared.place.Place.{Place}
use Rattle.gq_parser.specs.Tree.{TypeTree, Named, ListOf}

-- the name that its lists and `!`s are around
abbrev pub named_of : TypeTree → List ℕ
named_of (Named p n non_null) = n
named_of (ListOf p t non_null) = named_of t

-- the place of that name
abbrev pub named_place : TypeTree → Place
named_place (Named p n non_null) = p
named_place (ListOf p t non_null) = named_place t

abbrev pub is_non_null : TypeTree → Bool
is_non_null (Named p n non_null) = non_null
is_non_null (ListOf p t non_null) = non_null

abbrev pub is_list : TypeTree → Bool
is_list (Named p n non_null) = false
is_list (ListOf p t non_null) = true
