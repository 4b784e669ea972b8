-- Coerced variables: the chosen operation with the values of its variables (sections 6.1 and 6.1.2).
use Rattle.std.specs.Prelude.{◌≡◌, ℕ, Bool, false, List, [], ◌∷◌, Option, Some, None, Result, Ok, Err, find, bytes_eq, string_bytes}
use Rattle.std.specs.Borrow.{Bor}
use Rattle.std.specs.Option.{option_map, option_map_or}
use Rattle.serde_json.specs.Data.{Data}
use Rattle.gq_parser.specs.Tree.{Operation}
use Rattle.schema_syntax.specs.Tree.{Definition}
use Rattle.gq_check.specs.declared.fault.PrepareFault.{PrepareFault}
use Rattle.gq_check.specs.declared.fault.PrepareFault.TheVariants as fault
use Rattle.gq_variables.specs.declared.fault.VariableFault.{VariableFault}
use Rattle.gq_variables.specs.declared.fault.VariableFault.TheVariants as variables
use Rattle.gq_variables.specs.Variables.{VariableOf}
use Rattle.gq_variables.specs.Values as values

-- the chosen operation, and its variables that have a value
pub record PreparedOf : Type 0 where
  pub operation : Operation
  pub variables : List VariableOf

-- says why there is no plan
pub data FaultOf : Type 0 where
  no_such_operation : List ℕ → FaultOf
  operation_needed : FaultOf
  variables_not_object : FaultOf
  bad_variable : List ℕ → FaultOf

-- the operation has this name
abbrev pub is_operation : List ℕ → Operation → Bool
is_operation q o = option_map_or (bytes_eq q) o.name false

abbrev pub found_operation : List ℕ → Option Operation → Result Operation FaultOf
found_operation name None = Err (no_such_operation name)
found_operation name (Some o) = Ok o

-- the only operation
abbrev pub only_operation : List Operation → Result Operation FaultOf
only_operation [] = Err operation_needed
only_operation (o ∷ []) = Ok o
only_operation (o ∷ p ∷ os) = Err operation_needed

-- the name that an operation is asked for by, if it is
abbrev pub asked_name : Option (Bor (List ℕ)) → Option (List ℕ)
asked_name name = option_map (λ n. n.now) name

-- the operation that is asked for by its name, or the only one (section 6.1, GetOperation)
abbrev pub chosen_operation : List Operation → Option (List ℕ) → Result Operation FaultOf
chosen_operation os (Some name) = found_operation name (find (is_operation name) os)
chosen_operation os None = only_operation os

abbrev pub with_variables : Operation
    → Result (List VariableOf) values.FaultOf → Result PreparedOf FaultOf
with_variables o (Ok vs) = Ok (record { operation = o; variables = vs })
with_variables o (Err values.not_object) = Err variables_not_object
with_variables o (Err (values.bad_variable name)) = Err (bad_variable name)

abbrev pub prepared_operation : List Definition → Data
    → Result Operation FaultOf → Result PreparedOf FaultOf
prepared_operation defs given (Err e) = Err e
prepared_operation defs given (Ok o) =
    with_variables o (values.coerced_variables defs o.variables given)

-- the operation that is asked for, with the values that this gives for its variables, or the first fault
abbrev pub prepared : List Definition → List Operation
    → Option (List ℕ) → Data → Result PreparedOf FaultOf
prepared defs os name given = prepared_operation defs given (chosen_operation os name)

-- a fault of variables, as one of a plan
abbrev pub prepare_fault : VariableFault → PrepareFault
prepare_fault variables.NotObject = fault.VariablesNotObject
prepare_fault (variables.Bad name) = fault.BadVariable name
prepare_fault variables.NoMemory = fault.NoMemory

-- the fault that is reported where a plan is wanted; of memory this says nothing
abbrev pub IsPrepareFault : {A : Type 0} → Result A FaultOf → PrepareFault → Type 0
IsPrepareFault want (fault.NoSuchOperation name) = want
    ≡ Err (no_such_operation (string_bytes name))
IsPrepareFault want fault.OperationNeeded = want ≡ Err operation_needed
IsPrepareFault want fault.VariablesNotObject = want ≡ Err variables_not_object
IsPrepareFault want (fault.BadVariable name) = want ≡ Err (bad_variable name)
IsPrepareFault want fault.NoMemory = Unit {0}
