-- Definitions of which texts are a server, and why others are none.
use Rattle.std.specs.Prelude.{◌≡◌, ◌⊎◌, ℕ, List, Result, Ok, Err}
use Rattle.schema_syntax.specs.Tree.{Definition}
use Rattle.schema_syntax.specs.declared.tree.Definition as rust
use Rattle.gq_schema.specs.Types.{tree_of}
use Rattle.gq_schema.specs.Reading.{IsSchema, IsFaultOf}
use Rattle.gq_bindings.specs.Tree.{BindingsOf}
use Rattle.gq_bindings.specs.Reading.{bindings_of, accepted, refused}
use Rattle.gq_schema.specs.declared.fault.SchemaFault.{SchemaFault}
use Rattle.gq_schema.specs.declared.fault.SchemaFault.TheVariants as schema

-- the definitions of a schema, and how its fields are answered
pub record ServerOf : Type 0 where
  pub definitions : List rust.Definition
  pub bindings : BindingsOf

-- The texts are this server: the first is a schema, and the second says its bindings.
pub record IsServer (text bindings : List ℕ) (s : ServerOf) : Type 0 where
  pub says : IsSchema text (tree_of s.definitions)
  pub accepts : bindings_of (tree_of s.definitions) bindings ≡ accepted s.bindings

-- the bindings text is refused for this
abbrev pub RefusesBindings : List Definition → List ℕ → SchemaFault → Type 0
RefusesBindings defs text (schema.BadBinding line) = bindings_of defs text ≡ refused line
RefusesBindings defs text _ = ⊥

-- with a schema, the bindings text is refused for this
pub record IsRefusedOver (text bindings : List ℕ) (fault : SchemaFault) : Type 0 where
  pub defs : List Definition
  pub says : IsSchema text defs
  pub refused : RefusesBindings defs bindings fault

-- Reason why the texts are no server: the schema's first fault; or else that its bindings are refused. Of memory this says
-- nothing.
abbrev pub IsServerFault : List ℕ → List ℕ → SchemaFault → Type 0
IsServerFault text bindings schema.NoMemory = Unit {0}
IsServerFault text bindings fault = IsFaultOf text fault ⊎ IsRefusedOver text bindings fault

-- both are the same server, wherever its schema lies in memory
pub record IsSame (s t : ServerOf) : Type 0 where
  pub definitions : tree_of s.definitions ≡ tree_of t.definitions
  pub bindings : s.bindings ≡ t.bindings

-- this server is made, unless memory ran out
abbrev pub MakesServer : ServerOf → Result ServerOf SchemaFault → Type 0
MakesServer s (Ok made) = IsSame made s
MakesServer s (Err fault) = fault ≡ schema.NoMemory
