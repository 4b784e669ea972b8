-- Definitions of which definitions are no schema, and why.
use Rattle.std.specs.Prelude.{◌||◌, is_some, List, Option, Some, None, if◌then◌else◌}
use Rattle.std.specs.Option.{option_map}
use Rattle.schema_syntax.specs.Tree.{Definition}
use Rattle.gq_schema.specs.declared.fault.SchemaFault.{SchemaFault}
use Rattle.gq_schema.specs.declared.fault.SchemaFault.TheVariants.{ReservedName, Duplicate, UnknownType, BadKind, BadImplements, BadDefault, NoQueryRoot}
use Rattle.gq_schema.specs.declared.rules.uses.TypeUseDemand.TheVariants.{IsDefined, Fits}
use Rattle.gq_schema.specs.Scan.{or_else}
use Rattle.gq_schema.specs.Types.{declared_root, type_in, query}
use Rattle.gq_schema.specs.Reserved.{first_reserved}
use Rattle.gq_schema.specs.Repeated.{first_repeated}
use Rattle.gq_schema.specs.Uses.{first_broken}
use Rattle.gq_schema.specs.Implements.{first_bad_interface}
use Rattle.gq_schema.specs.Defaults.{first_bad_default}

-- There is neither a `schema` nor a type `Query`.
abbrev pub missing_root : List Definition → Option SchemaFault
missing_root defs =
    if is_some (declared_root defs) || is_some (type_in defs query) then None else Some NoQueryRoot

-- gives what is left to be reported once no name is reserved and none is defined twice
abbrev pub fault_of_types : List Definition → Option SchemaFault
fault_of_types defs =
    or_else (option_map UnknownType (first_broken defs IsDefined))
    (or_else (option_map BadKind (first_broken defs Fits))
    (or_else (option_map BadImplements (first_bad_interface defs))
    (or_else (option_map BadDefault (first_bad_default defs)) (missing_root defs))))

-- The fault that is reported of these definitions: the first of the rules in this order that is broken, at the first place in
-- the text where it is.
abbrev pub fault_of : List Definition → Option SchemaFault
fault_of defs = or_else (option_map ReservedName (first_reserved defs))
    (or_else (option_map Duplicate (first_repeated defs)) (fault_of_types defs))
