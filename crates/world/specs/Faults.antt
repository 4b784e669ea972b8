-- Definitions of how faults are named for a user.
use Rattle.std.specs.Prelude.{ℕ, List, codes}
use Rattle.gq_schema.specs.declared.fault.SchemaFault.{SchemaFault}
use Rattle.gq_schema.specs.declared.fault.SchemaFault.TheVariants as schema
use Rattle.world.specs.declared.fault.WorldFault.{WorldFault}
use Rattle.world.specs.declared.fault.WorldFault.TheVariants as world

-- the code and the name of a fault of a schema or of bindings
abbrev pub schema_code_and_name : SchemaFault → List ℕ
schema_code_and_name (schema.Syntax p) = codes "S1 Syntax"
schema_code_and_name (schema.Duplicate p) = codes "S2 Duplicate"
schema_code_and_name (schema.UnknownType p) = codes "S3 UnknownType"
schema_code_and_name (schema.BadImplements p) = codes "S4 BadImplements"
schema_code_and_name schema.NoQueryRoot = codes "S5 NoQueryRoot"
schema_code_and_name (schema.ReservedName p) = codes "S6 ReservedName"
schema_code_and_name (schema.NotServed p) = codes "S7 NotServed"
schema_code_and_name (schema.BadBinding line) = codes "S8 BadBinding"
schema_code_and_name schema.NoMemory = codes "X4 NoMemory"
schema_code_and_name (schema.BadKind p) = codes "S10 BadKind"
schema_code_and_name (schema.BadDefault p) = codes "S11 BadDefault"

-- the code and the name of a fault
abbrev pub code_and_name : WorldFault → List ℕ
code_and_name world.BadLimit = codes "Q1 BadLimit"
code_and_name (world.Schema fault) = schema_code_and_name fault
code_and_name world.DuplicateTable = codes "X6 DuplicateTable"
code_and_name world.NoSuchTable = codes "X7 NoSuchTable"
code_and_name world.NoSuchColumn = codes "C6 NoSuchColumn"
code_and_name world.NoMemory = codes "X4 NoMemory"

-- a fault of a schema or of bindings, as one of a world; want of memory is one fault
abbrev pub lifted : SchemaFault → WorldFault
lifted schema.NoMemory = world.NoMemory
lifted fault = world.Schema fault
