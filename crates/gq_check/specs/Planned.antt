-- Definitions of how plans are prepared, and what holds of every plan: it is prepared from a valid document.
use Rattle.std.specs.Prelude.{◌≡◌, ℕ, List, Option, Result, Ok, get_or}
use Rattle.std.specs.Arc.{arc_value}
use Rattle.std.specs.Borrow.{Bor}
use Rattle.std.specs.declared.alloc.Global.{Global}
use Rattle.std.specs.declared.sync.Arc.{Arc}
use Rattle.serde_json.specs.Data.{Data}
use Rattle.serde_json.specs.View.{view}
use Rattle.serde_json.specs.declared.value.Value.{Value}
use Rattle.gq_parser.specs.declared.tree.Operation as rust-operation
use Rattle.gq_parser.specs.Tree.{Document, Operation, Fragment, operation_of}
use Rattle.schema_syntax.specs.declared.tree.Definition as rust-definition
use Rattle.schema_syntax.specs.Tree.{Definition}
use Rattle.gq_schema.specs.Types.{tree_of}
use Rattle.gq_check.specs.Plans.{CheckedParts, PlanParts, PlanOf, plan_of, operations_of, operations_in}
use Rattle.gq_check.specs.Prepared.{PreparedOf, FaultOf, asked_name, chosen_operation, prepared_operation, prepared}
use Rattle.gq_check.specs.Verdict.{IsValid}

-- Some document is valid over the plan's definitions; the plan has its fragments, and one of its operations, with the values of
-- the variables that were given.
pub record IsPlan (p : PlanOf) : Type 0 where
  pub document : Document
  pub valid : IsValid p.definitions document
  pub same : p.fragments ≡ document.fragments
  pub name : Option (List ℕ)
  pub given : Data
  pub prepares : prepared p.definitions document.operations name given
      ≡ Ok (record { operation = p.operation; variables = p.variables })

-- Some document is valid over the definitions and has these fragments, and a name chooses this of its operations.
pub record IsChosen (defs : List Definition) (o : Operation)
    (fragments : List Fragment) : Type 0 where
  pub document : Document
  pub valid : IsValid defs document
  pub same : fragments ≡ document.fragments
  pub name : Option (List ℕ)
  pub chosen : chosen_operation document.operations name ≡ Ok o

-- At this place of the operations stands the one that is asked for by this name, or the only one.
abbrev pub IsChosenAt : List (Arc rust-operation.Operation Global) → Option (List ℕ) → ℕ → Type 0
IsChosenAt os name place = (d : Arc rust-operation.Operation Global)
    → chosen_operation (operations_in os) name ≡ Ok (operation_of (arc_value (get_or os place d)))

-- gives what preparing gives over these definitions, of an operation among these that may be asked for by its name, with these
-- values
abbrev pub preparation : List rust-definition.Definition → List rust-operation.Operation
    → Option (Bor (List ℕ)) → Value → Result PreparedOf FaultOf
preparation defs os name given =
    prepared (tree_of defs) (operations_of os) (asked_name name) (view given)

-- gives the same of a document that was found valid
abbrev pub preparation_in : CheckedParts → Option (Bor (List ℕ)) → Value → Result PreparedOf FaultOf
preparation_in checked = preparation checked.definitions checked.document.operations.items

-- gives the same of an operation that was chosen
abbrev pub preparation_of : List rust-definition.Definition
    → rust-operation.Operation → Value → Result PreparedOf FaultOf
preparation_of defs operation given =
    prepared_operation (tree_of defs) (view given) (Ok (operation_of operation))

-- the operation of a plan, and its variables that have a value
abbrev pub prepared_in : PlanParts → PreparedOf
prepared_in p = record { operation = (plan_of p).operation; variables = (plan_of p).variables }
