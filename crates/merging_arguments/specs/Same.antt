-- When two fields are given the same arguments (section 5.3.2).
use Rattle.std.specs.Prelude.{Bool, true, false, not, ◌&&◌, List, bytes_eq}
use Rattle.std.specs.List.{list_any, list_all}
use Rattle.gq_parser.specs.Tree.{Argument, Value, Variable, Int, Float, Text, Boolean, Null, Enum, Array, Object, Values, no_value, and_value, Members, no_member, and_member}

abbrev pub same_bool : Bool → Bool → Bool
same_bool true b = b
same_bool false b = not b

-- ---- values

abbrev mutual
  -- equal values: strings by what they stand for, numbers by their text, lists and objects in order
  pub same_value : Value → Value → Bool
  same_value (Variable p n) (Variable q m) = bytes_eq n m
  same_value (Int p n) (Int q m) = bytes_eq n m
  same_value (Float p n) (Float q m) = bytes_eq n m
  same_value (Text p n) (Text q m) = bytes_eq n m
  same_value (Boolean p b) (Boolean q c) = same_bool b c
  same_value (Null p) (Null q) = true
  same_value (Enum p n) (Enum q m) = bytes_eq n m
  same_value (Array p vs) (Array q ws) = same_values vs ws
  same_value (Object p ms) (Object q ns) = same_members ms ns
  same_value _ _ = false

  pub same_values : Values → Values → Bool
  same_values no_value no_value = true
  same_values (and_value v vs) (and_value w ws) = same_value v w && same_values vs ws
  same_values _ _ = false

  pub same_members : Members → Members → Bool
  same_members no_member no_member = true
  same_members (and_member p n v ms) (and_member q m w ns) =
      bytes_eq n m && (same_value v w && same_members ms ns)
  same_members _ _ = false

-- ---- arguments, as sets of names and values

abbrev pub same_argument : Argument → Argument → Bool
same_argument a b = bytes_eq a.name b.name && same_value a.value b.value

abbrev pub is_given : List Argument → Argument → Bool
is_given as' a = list_any (same_argument a) as'

-- the first are all given among the second
abbrev pub are_given : List Argument → List Argument → Bool
are_given as' bs = list_all (is_given bs) as'

abbrev pub same_arguments : List Argument → List Argument → Bool
same_arguments as' bs = are_given as' bs && are_given bs as'
