-- Definitions of what an object type that implements an interface must have (section 3.6,
-- IsValidImplementation).
use Rattle.std.specs.Prelude.{ℕ, Bool, false, ◌&&◌, ◌||◌, not, is_some, List, Option, Some, None, find, if◌then◌else◌}
use Rattle.std.specs.List.{list_all}
use Rattle.std.specs.Option.{option_map_or}
use Rattle.text_place.specs.declared.place.Place.{Place}
use Rattle.schema_syntax.specs.Tree.{Name, Argument, Field, Definition, Object}
use Rattle.gq_schema.specs.Scan.{first_in}
use Rattle.gq_schema.specs.Types.{field_in, fields_in, is_argument, is_covariant, is_same_type, is_non_null}

-- the argument of this name
abbrev pub argument_in : List Argument → List ℕ → Option Argument
argument_in arguments name = find (is_argument name) arguments

-- one of these is the wanted argument, of the same type
abbrev pub has_argument : List Argument → Argument → Bool
has_argument own wanted = option_map_or (λ (a : Argument). is_same_type a.of_type wanted.of_type)
    (argument_in own wanted.name.text) false

abbrev pub is_required : Argument → Bool
is_required a = is_non_null a.of_type && not (is_some a.default)

-- the argument is one of the wanted ones, or may be left out
abbrev pub may_stand : List Argument → Argument → Bool
may_stand wanted a = is_some (argument_in wanted a.name.text) || not (is_required a)

-- the field serves as the wanted one
abbrev pub serves : List Definition → Field → Field → Bool
serves defs wanted f = is_covariant defs f.of_type wanted.of_type
    && (list_all (has_argument f.arguments) wanted.arguments
    && list_all (may_stand wanted.arguments) f.arguments)

-- the type has a field that serves as the wanted one
abbrev pub has_field : List Definition → List ℕ → Field → Bool
has_field defs ty wanted =
    option_map_or (serves defs wanted) (field_in defs ty wanted.name.text) false

-- the type has each field of the interface
abbrev pub implements : List Definition → List ℕ → List ℕ → Bool
implements defs ty interface = list_all (has_field defs ty) (fields_in defs interface)

abbrev pub bad_interface : List Definition → List ℕ → Name → Option Place
bad_interface defs ty i = if implements defs ty i.text then None else Some i.place

abbrev pub bad_interface_in : List Definition → Definition → Option Place
bad_interface_in defs (Object n is fs) = first_in (bad_interface defs n.text) is
bad_interface_in defs _ = None

-- the first name of the text, after `implements`, of an interface that is not implemented
abbrev pub first_bad_interface : List Definition → Option Place
first_bad_interface defs = first_in (bad_interface_in defs) defs
