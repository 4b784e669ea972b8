-- Definitions of which texts are schemas, and the fault of every other text (section 3).
use Rattle.std.specs.Prelude.{◌≡◌, ℕ, List, Some, None, Result, Ok, Err}
use Rattle.schema_syntax.specs.declared.fault.SyntaxFault.TheVariants as syntax
use Rattle.schema_syntax.specs.declared.tree.Definition as rust
use Rattle.schema_syntax.specs.Tree.{Definition}
use Rattle.schema_syntax.specs.Text.{IsSchemaOf, IsTextFault}
use Rattle.gq_schema.specs.declared.fault.SchemaFault.{SchemaFault}
use Rattle.gq_schema.specs.declared.fault.SchemaFault.TheVariants.{Syntax, NotServed, NoMemory}
use Rattle.gq_schema.specs.Types.{tree_of}
use Rattle.gq_schema.specs.Fault.{fault_of}

-- The text says these definitions, and they keep the rules.
pub record IsSchema (text : List ℕ) (defs : List Definition) : Type 0 where
  pub says : IsSchemaOf text defs
  pub keeps : fault_of defs ≡ None

-- The text says definitions of which this fault is reported.
pub record IsBroken (text : List ℕ) (e : SchemaFault) : Type 0 where
  pub defs : List Definition
  pub says : IsSchemaOf text defs
  pub breaks : fault_of defs ≡ Some e

-- the fault of a text: first the one of its syntax
abbrev pub IsFaultOf : List ℕ → SchemaFault → Type 0
IsFaultOf text (Syntax p) = IsTextFault text (syntax.Syntax p)
IsFaultOf text (NotServed p) = IsTextFault text (syntax.NotServed p)
IsFaultOf text NoMemory = Unit {0}
IsFaultOf text e = IsBroken text e

-- this schema was read, unless memory ran out
abbrev pub Reads : List Definition → Result (List rust.Definition) SchemaFault → Type 0
Reads defs (Ok schema) = tree_of schema ≡ defs
Reads defs (Err e) = e ≡ NoMemory
