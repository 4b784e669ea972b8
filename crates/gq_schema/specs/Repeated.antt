-- Names that are defined a second time: types (the built-in ones included), the fields of a type, the arguments of a field,
-- the values of an enum, the members of a union, the interfaces that a type implements, and `schema` itself.
use Rattle.std.specs.Prelude.{Bool, true, false, ◌||◌, List, [], ◌∷◌, ◌++◌, Option, Some, None, if◌then◌else◌}
use Rattle.std.specs.List.{list_any}
use Rattle.text_place.specs.declared.place.Place.{Place}
use Rattle.schema_syntax.specs.Tree.{Name, Argument, Field, Definition, Schema, Object, Interface, Union, Enum}
use Rattle.gq_schema.specs.Scan.{or_else}
use Rattle.gq_schema.specs.Types.{is_called, is_argument, is_field, is_built_in, defines}

-- the first of these names that stands before itself, among the earlier ones too
abbrev pub repeated_name : List Name → List Name → Option Place
repeated_name earlier [] = None
repeated_name earlier (n ∷ ns) = if list_any (is_called n.text) earlier then Some n.place
    else repeated_name (earlier ++ n ∷ []) ns

-- gives the same of arguments
abbrev pub repeated_argument : List Argument → List Argument → Option Place
repeated_argument earlier [] = None
repeated_argument earlier (a ∷ others) = if list_any (is_argument a.name.text) earlier
    then Some a.name.place else repeated_argument (earlier ++ a ∷ []) others

-- gives the same of fields, and of the arguments of each
abbrev pub repeated_field : List Field → List Field → Option Place
repeated_field earlier [] = None
repeated_field earlier (f ∷ fs) =
    if list_any (is_field f.name.text) earlier then Some f.name.place
    else or_else (repeated_argument [] f.arguments) (repeated_field (earlier ++ f ∷ []) fs)

abbrev pub is_root : Definition → Bool
is_root (Schema p n) = true
is_root _ = false

-- the name of a type, where it is built in or one of these defines it
abbrev pub repeated_type : List Definition → Name → Option Place
repeated_type earlier n =
    if is_built_in n.text || list_any (defines n.text) earlier then Some n.place else None

-- the name of a definition, or its word `schema`, where these stood earlier
abbrev pub repeated_self : List Definition → Definition → Option Place
repeated_self earlier (Schema p n) = if list_any is_root earlier then Some p else None
repeated_self earlier (Object n is fs) = repeated_type earlier n
repeated_self earlier (Interface n fs) = repeated_type earlier n
repeated_self earlier (Union n ms) = repeated_type earlier n
repeated_self earlier (Enum n vs) = repeated_type earlier n

-- a name within a definition
abbrev pub repeated_within : Definition → Option Place
repeated_within (Schema p n) = None
repeated_within (Object n is fs) = or_else (repeated_name [] is) (repeated_field [] fs)
repeated_within (Interface n fs) = repeated_field [] fs
repeated_within (Union n ms) = repeated_name [] ms
repeated_within (Enum n vs) = repeated_name [] vs

-- the first name that these definitions define again, behind the earlier ones
abbrev pub repeated_from : List Definition → List Definition → Option Place
repeated_from earlier [] = None
repeated_from earlier (d ∷ ds) = or_else (repeated_self earlier d)
    (or_else (repeated_within d) (repeated_from (earlier ++ d ∷ []) ds))

-- the first name of the text that is defined a second time
abbrev pub first_repeated : List Definition → Option Place
first_repeated defs = repeated_from [] defs
