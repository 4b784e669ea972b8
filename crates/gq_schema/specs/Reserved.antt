-- Names that begin with two underscores belong to introspection (section 3): no definition may give one to a type, a field,
-- an argument or an enum value.
use Rattle.std.specs.Prelude.{List, Option, Some, None, nat_eq, codes, if◌then◌else◌}
use Rattle.std.specs.List.{starts_with}
use Rattle.text_place.specs.declared.place.Place.{Place}
use Rattle.schema_syntax.specs.Tree.{Name, Argument, Field, Definition, Schema, Object, Interface, Union, Enum}
use Rattle.gq_schema.specs.Scan.{or_else, first_in}

abbrev pub reserved_name : Name → Option Place
reserved_name n = if starts_with nat_eq n.text (codes "__") then Some n.place else None

abbrev pub reserved_argument : Argument → Option Place
reserved_argument a = reserved_name a.name

abbrev pub reserved_field : Field → Option Place
reserved_field f = or_else (reserved_name f.name) (first_in reserved_argument f.arguments)

abbrev pub reserved_definition : Definition → Option Place
reserved_definition (Schema p n) = None
reserved_definition (Object n is fs) = or_else (reserved_name n) (first_in reserved_field fs)
reserved_definition (Interface n fs) = or_else (reserved_name n) (first_in reserved_field fs)
reserved_definition (Union n ms) = reserved_name n
reserved_definition (Enum n vs) = or_else (reserved_name n) (first_in reserved_name vs)

-- the first name of the text that is reserved
abbrev pub first_reserved : List Definition → Option Place
first_reserved = first_in reserved_definition
