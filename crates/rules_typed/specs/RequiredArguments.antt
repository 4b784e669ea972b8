-- Required Arguments (section 5.4.2.1).
use Rattle.std.specs.Prelude.{ℕ, Bool, true, false, ◌&&◌, not, List, filter_map, Option, Some, None, option_map, find, bytes_eq}
use Rattle.std.specs.Option.{option_and_then}
use Rattle.text_place.specs.declared.place.Place.{Place}
use Rattle.gq_parser.specs.Tree.{Value, Null}
use Rattle.gq_parser.specs.Tree as tree
use Rattle.schema_syntax.specs.Tree.{Argument}
use Rattle.gq_schema.specs.Implements.{is_required}
use Rattle.rules_parts.specs.Broken.{BrokenOf}
use Rattle.rules_parts.specs.Parts.{ArgumentList, PartsOf}

abbrev pub is_null : Value → Bool
is_null (Null p) = true
is_null _ = false

abbrev pub is_called : List ℕ → tree.Argument → Bool
is_called name a = bytes_eq name a.name

abbrev pub is_value : Option tree.Argument → Bool
is_value None = false
is_value (Some a) = not (is_null a.value)

-- An argument of this name is given, and the first of the name isn't the literal `null`.
abbrev pub is_given : List tree.Argument → List ℕ → Bool
is_given arguments name = is_value (find (is_called name) arguments)

-- The argument is non-null and has no default, and these arguments don't give it.
abbrev pub is_missing : List tree.Argument → Argument → Bool
is_missing arguments a = is_required a && not (is_given arguments a.name.text)

abbrev pub name_of : Argument → List ℕ
name_of a = a.name.text

-- the name of the first argument of these that is missing
abbrev pub first_missing : List Argument → List tree.Argument → Option (List ℕ)
first_missing defined arguments = option_map name_of (find (is_missing arguments) defined)

abbrev pub broken_at : Place → List ℕ → BrokenOf
broken_at place name = record { name = name; place = place }

-- the first argument by definition that is missing, at the place of the field or directive
abbrev pub missing_argument : ArgumentList → Option BrokenOf
missing_argument l = option_map (broken_at l.place)
    (option_and_then (λ (ds : List Argument). first_missing ds l.arguments) l.definitions)

-- the fields and directives that lack an argument, with the first that each lacks
abbrev pub required_arguments : PartsOf → List BrokenOf
required_arguments p = filter_map missing_argument p.argument_lists
