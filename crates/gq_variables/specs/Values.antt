-- The values of variables (section 6.1.2, CoerceVariableValues).
use Rattle.std.specs.Prelude.{◌≡◌, ℕ, Bool, ◌||◌, is_some, List, [], ◌∷◌, ◌++◌, Option, Some, None, Result, Ok, Err, if◌then◌else◌}
use Rattle.serde_json.specs.Data.{Data}
use Rattle.serde_json.specs.View.{view}
use Rattle.serde_json.specs.declared.value.Value as rust-data
use Rattle.serde_json.specs.Find.{get, as_null, as_object}
use Rattle.gq_parser.specs.Tree.{Value, VariableDefinition, variables_of as definitions_of}
use Rattle.gq_parser.specs.declared.tree.VariableDefinition as rust-document
use Rattle.schema_syntax.specs.declared.tree.Definition as rust-schema
use Rattle.schema_syntax.specs.Tree.{Definition}
use Rattle.gq_schema.specs.Types.{tree_of, is_non_null}
use Rattle.gq_schema.specs.Inputs.{Input}
use Rattle.gq_schema.specs.Coercion.{coerced}
use Rattle.gq_variables.specs.declared.fault.VariableFault.{VariableFault}
use Rattle.gq_variables.specs.declared.fault.VariableFault.TheVariants as fault
use Rattle.gq_variables.specs.JsonCoercion.{data_input}
use Rattle.gq_variables.specs.Variables.{VariableOf}

-- says what a variable has
pub data ValueOf : Type 0 where
  a_value : Input → ValueOf
  no_value : ValueOf
  bad_value : ValueOf

-- a value, where it is right
abbrev pub right_value : Option Input → ValueOf
right_value None = bad_value
right_value (Some i) = a_value i

-- gives what a variable has that is not given: its default; else none, where its type may be null
abbrev pub default_value : List Definition → VariableDefinition → Option Value → ValueOf
default_value defs v None = if is_non_null v.of_type then bad_value else no_value
default_value defs v (Some literal) = right_value (coerced defs v.of_type literal)

-- gives what a variable has, where this is given for it, if anything is
abbrev pub given_value : List Definition → VariableDefinition → Option Data → ValueOf
given_value defs v None = default_value defs v v.default
given_value defs v (Some d) = right_value (data_input defs v.of_type d)

-- Gives what a variable has, where this is given for all. In what is no object `get` finds nothing.
abbrev pub value_of : List Definition → Data → VariableDefinition → ValueOf
value_of defs given v = given_value defs v (get v.name given)

-- says why variables have no values
pub data FaultOf : Type 0 where
  not_object : FaultOf
  bad_variable : List ℕ → FaultOf

abbrev pub before : VariableOf → Result (List VariableOf) FaultOf → Result (List VariableOf) FaultOf
before v (Ok vs) = Ok (v ∷ vs)
before v (Err e) = Err e

-- these variables, and then others
abbrev pub variables_before : List VariableOf
    → Result (List VariableOf) FaultOf → Result (List VariableOf) FaultOf
variables_before vs (Ok others) = Ok (vs ++ others)
variables_before vs (Err e) = Err e

-- a variable with what it has, and then what others have
abbrev pub and_then : List ℕ → ValueOf
    → Result (List VariableOf) FaultOf → Result (List VariableOf) FaultOf
and_then name (a_value i) others = before (record { name = name; value = i }) others
and_then name no_value others = others
and_then name bad_value others = Err (bad_variable name)

-- the variables that have a value, in the order of their definitions, or the first that is bad
abbrev pub values_of : List Definition → Data
    → List VariableDefinition → Result (List VariableOf) FaultOf
values_of defs given [] = Ok []
values_of defs given (v ∷ vs) = and_then v.name (value_of defs given v) (values_of defs given vs)

-- an object, or null, which gives no values
abbrev pub gives_values : Data → Bool
gives_values d = is_some (as_null d) || is_some (as_object d)

-- the variables that have a value, where this is given for all, or why there are none
abbrev pub coerced_variables : List Definition
    → List VariableDefinition → Data → Result (List VariableOf) FaultOf
coerced_variables defs vs given =
    if gives_values given then values_of defs given vs else Err not_object

-- gives the same of what was read
abbrev pub read_variables : List rust-schema.Definition → List rust-document.VariableDefinition
    → rust-data.Value → Result (List VariableOf) FaultOf
read_variables schema definitions given =
    coerced_variables (tree_of schema) (definitions_of definitions) (view given)

-- the fault that is reported where values are wanted; of memory this says nothing
abbrev pub IsVariableFault : Result (List VariableOf) FaultOf → VariableFault → Type 0
IsVariableFault want fault.NotObject = want ≡ Err not_object
IsVariableFault want (fault.Bad name) = want ≡ Err (bad_variable name)
IsVariableFault want fault.NoMemory = Unit {0}
