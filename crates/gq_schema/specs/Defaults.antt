-- Defaults that are not of their argument's type (section 3.6.1).
use Rattle.std.specs.Prelude.{List, Option, Some, None, if◌then◌else◌}
use Rattle.text_place.specs.declared.place.Place.{Place}
use Rattle.gq_parser.specs.Tree.{TypeTree, Value}
use Rattle.schema_syntax.specs.Tree.{Argument, Field, Definition}
use Rattle.gq_schema.specs.Scan.{first_in}
use Rattle.gq_schema.specs.Types.{own_fields}
use Rattle.gq_schema.specs.Coercion.{accepts, place_of}

abbrev pub bad_value : List Definition → TypeTree → Option Value → Option Place
bad_value defs t None = None
bad_value defs t (Some v) = if accepts defs t v then None else Some (place_of v)

abbrev pub bad_default : List Definition → Argument → Option Place
bad_default defs a = bad_value defs a.of_type a.default

abbrev pub bad_default_of : List Definition → Field → Option Place
bad_default_of defs f = first_in (bad_default defs) f.arguments

abbrev pub bad_default_in : List Definition → Definition → Option Place
bad_default_in defs d = first_in (bad_default_of defs) (own_fields d)

-- the first default of the text that is not right
abbrev pub first_bad_default : List Definition → Option Place
first_bad_default defs = first_in (bad_default_in defs) defs
