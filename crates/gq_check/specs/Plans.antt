-- Plans, without where they lie in memory.
use Rattle.std.specs.Prelude.{◌≡◌, ℕ, Bool, List, Option, map, find, bytes_eq}
use Rattle.std.specs.Arc.{arc_value}
use Rattle.std.specs.declared.alloc.Global.{Global}
use Rattle.std.specs.declared.sync.Arc.{Arc}
use Rattle.gq_parser.specs.declared.tree.Operation as rust-operation
use Rattle.gq_parser.specs.declared.tree.Fragment as rust-fragment
use Rattle.gq_parser.specs.declared.tree.Document as rust-document
use Rattle.gq_parser.specs.Tree.{Document, Operation, Fragment, operation_of, fragment_of}
use Rattle.schema_syntax.specs.declared.tree.Definition as rust-definition
use Rattle.schema_syntax.specs.Tree.{Definition}
use Rattle.gq_schema.specs.Types.{tree_of}
use Rattle.gq_bindings.specs.Tree.{BindingsOf}
use Rattle.gq_variables.specs.declared.variable.Variable as rust-variable
use Rattle.gq_variables.specs.Variables.{VariableOf, variables_of}

-- the parts of a plan as the program holds them
pub record PlanParts : Type 0 where
  pub definitions : List rust-definition.Definition
  pub bindings : BindingsOf
  pub operation : rust-operation.Operation
  pub fragments : List rust-fragment.Fragment
  pub variables : List rust-variable.Variable

-- the other plan has the same parts but for the values of its variables
pub record IsSameBut (one other : PlanParts) : Type 0 where
  pub definitions : other.definitions ≡ one.definitions
  pub bindings : other.bindings ≡ one.bindings
  pub operation : other.operation ≡ one.operation
  pub fragments : other.fragments ≡ one.fragments

-- a checked document as the program holds it, and the definitions of the schema over which it was checked
pub record CheckedParts : Type 0 where
  pub definitions : List rust-definition.Definition
  pub document : rust-document.Document

-- a kept document as the program holds it, and the definitions of the schema over which it was checked
pub record KeptParts : Type 0 where
  pub definitions : List rust-definition.Definition
  pub operations : List rust-operation.Operation
  pub fragments : List rust-fragment.Fragment

-- A plan: the definitions of the schema, how its fields are answered, the chosen operation, the fragments of its document,
-- and the variables that have a value.
pub record PlanOf : Type 0 where
  pub definitions : List Definition
  pub bindings : BindingsOf
  pub operation : Operation
  pub fragments : List Fragment
  pub variables : List VariableOf

-- the parts of a plan that shares these
abbrev pub plan_parts : Arc (List rust-definition.Definition) Global
    → Arc BindingsOf Global → Arc rust-operation.Operation Global
    → Arc (List rust-fragment.Fragment) Global → List rust-variable.Variable → PlanParts
plan_parts schema bindings operation fragments variables = record {
  definitions = arc_value schema;
  bindings = arc_value bindings;
  operation = arc_value operation;
  fragments = arc_value fragments;
  variables = variables;
}

abbrev pub operations_of : List rust-operation.Operation → List Operation
operations_of os = map operation_of os

-- operations that are shared
abbrev pub operations_in : List (Arc rust-operation.Operation Global) → List Operation
operations_in os = operations_of (map arc_value os)

abbrev pub fragments_of : List rust-fragment.Fragment → List Fragment
fragments_of fs = map fragment_of fs

-- a document of these operations and fragments
abbrev pub document_with : List rust-operation.Operation → List rust-fragment.Fragment → Document
document_with os fs = record { operations = map operation_of os; fragments = fragments_of fs }

abbrev pub kept_document : KeptParts → Document
kept_document k =
    record { operations = map operation_of k.operations; fragments = fragments_of k.fragments }

abbrev pub plan_of : PlanParts → PlanOf
plan_of p = record {
  definitions = tree_of p.definitions;
  bindings = p.bindings;
  operation = operation_of p.operation;
  fragments = fragments_of p.fragments;
  variables = variables_of p.variables;
}

abbrev pub is_fragment : List ℕ → Fragment → Bool
is_fragment q f = bytes_eq q f.name

-- the fragment of this name
abbrev pub fragment_in : List Fragment → List ℕ → Option Fragment
fragment_in fs q = find (is_fragment q) fs
