-- Faults of the syntax as faults of a schema.
use Rattle.schema_syntax.specs.declared.fault.SyntaxFault.{SyntaxFault}
use Rattle.schema_syntax.specs.declared.fault.SyntaxFault.TheVariants as syntax
use Rattle.gq_schema.specs.declared.fault.SchemaFault.{SchemaFault}
use Rattle.gq_schema.specs.declared.fault.SchemaFault.TheVariants.{Syntax, NotServed, NoMemory}

abbrev pub schema_fault_of : SyntaxFault → SchemaFault
schema_fault_of (syntax.Syntax p) = Syntax p
schema_fault_of (syntax.NotServed p) = NotServed p
schema_fault_of syntax.NoMemory = NoMemory
