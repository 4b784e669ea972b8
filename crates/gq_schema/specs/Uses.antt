-- Definitions of where the names of types are used, and what may stand there: a field may be of any
-- type (section 3.6), an argument of a scalar, an enum or a list of these (section 3.6.1), the root
-- (section 3.3.1) and a member of a union (section 3.8) are object types, and what a type
-- implements is an interface (section 3.6).
use Rattle.std.specs.Prelude.{Bool, true, ◌&&◌, is_some, is_none, List, Option, Some, None, bytes_eq, if◌then◌else◌}
use Rattle.std.specs.Option.{option_map_or}
use Rattle.text_place.specs.declared.place.Place.{Place}
use Rattle.schema_syntax.specs.Tree.{Name, Argument, Field, Definition, Schema, Object, Interface, Union, Enum}
use Rattle.gq_schema.specs.declared.kind.TypeKind.{TypeKind}
use Rattle.gq_schema.specs.declared.rules.uses.Role.{Role}
use Rattle.gq_schema.specs.declared.rules.uses.Role.TheVariants.{FieldType, ArgumentType, Implemented, Member, Root}
use Rattle.gq_schema.specs.declared.rules.uses.TypeUseDemand.{TypeUseDemand}
use Rattle.gq_schema.specs.declared.rules.uses.TypeUseDemand.TheVariants.{IsDefined, Fits}
use Rattle.gq_schema.specs.Kinds.{is_input, is_object, is_interface}
use Rattle.gq_schema.specs.Scan.{or_else, first_in}
use Rattle.gq_schema.specs.Types.{kind_in, core_of, query, declared_root}

-- gives what may stand in this role
abbrev pub fits : Role → TypeKind → Bool
fits FieldType k = true
fits ArgumentType k = is_input k
fits Implemented k = is_interface k
fits Member k = is_object k
fits Root k = is_object k

-- A use breaks the first rule where its name has no definition, and the second where what it names does not fit.
abbrev pub keeps : TypeUseDemand → Role → Option TypeKind → Bool
keeps IsDefined role k = is_some k
keeps Fits role k = option_map_or (fits role) k true

abbrev pub broken_use : List Definition → TypeUseDemand → Role → Name → Option Place
broken_use defs rule role n = if keeps rule role (kind_in defs n.text) then None else Some n.place

abbrev pub broken_argument : List Definition → TypeUseDemand → Argument → Option Place
broken_argument defs rule a = broken_use defs rule ArgumentType (core_of a.of_type)

abbrev pub broken_field : List Definition → TypeUseDemand → Field → Option Place
broken_field defs rule f = or_else (first_in (broken_argument defs rule) f.arguments)
    (broken_use defs rule FieldType (core_of f.of_type))

-- Without `schema` the definition of `Query` is the root, at its own name.
abbrev pub is_own_root : List Definition → Name → Bool
is_own_root defs n = is_none (declared_root defs) && bytes_eq n.text query

abbrev pub broken_root : List Definition → TypeUseDemand → Name → Option Place
broken_root defs rule n = if is_own_root defs n then broken_use defs rule Root n else None

abbrev pub broken_in : List Definition → TypeUseDemand → Definition → Option Place
broken_in defs rule (Schema p n) = broken_use defs rule Root n
broken_in defs rule (Object n is fs) = or_else (broken_root defs rule n) (or_else
    (first_in (broken_use defs rule Implemented) is) (first_in (broken_field defs rule) fs))
broken_in defs rule (Interface n fs) =
    or_else (broken_root defs rule n) (first_in (broken_field defs rule) fs)
broken_in defs rule (Union n ms) =
    or_else (broken_root defs rule n) (first_in (broken_use defs rule Member) ms)
broken_in defs rule (Enum n vs) = broken_root defs rule n

-- the first use in the text that breaks the rule
abbrev pub first_broken : List Definition → TypeUseDemand → Option Place
first_broken defs rule = first_in (broken_in defs rule) defs
