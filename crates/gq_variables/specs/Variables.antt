-- Variables with their values, without where they lie in memory.
use Rattle.std.specs.Prelude.{ℕ, Bool, List, Option, map, find, bytes_eq}
use Rattle.std.specs.Option.{option_map}
use Rattle.gq_schema.specs.Inputs.{Input, input_of}
use Rattle.gq_variables.specs.declared.variable.Variable as rust

-- a variable that has a value; the name is without the `$`
pub record VariableOf : Type 0 where
  pub name : List ℕ
  pub value : Input

abbrev pub variable_of : rust.Variable → VariableOf
variable_of v = record { name = v.name; value = input_of v.value }

abbrev pub variables_of : List rust.Variable → List VariableOf
variables_of vs = map variable_of vs

abbrev pub is_variable : List ℕ → VariableOf → Bool
is_variable q v = bytes_eq q v.name

-- the value of the variable of this name, where it has one
abbrev pub value_in : List VariableOf → List ℕ → Option Input
value_in vs q = option_map (λ (v : VariableOf). v.value) (find (is_variable q) vs)
