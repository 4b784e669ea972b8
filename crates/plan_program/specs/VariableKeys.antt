-- Definitions of keys of loads that a variable gives.
use Rattle.std.specs.Prelude.{ℕ, List, [], ◌∷◌, Option, Some, None, option_and_then}
use Rattle.gq_parser.specs.Tree.{Value, Variable}
use Rattle.gq_parser.specs.Tree as literal
use Rattle.schema_syntax.specs.Tree.{Argument, Field}
use Rattle.gq_schema.specs.Types.{field_in}
use Rattle.gq_variables.specs.Variables.{value_in}
use Rattle.load_memory.specs.Keys.{KeyOf}
use Rattle.gq_check.specs.Plans.{PlanOf}
use Rattle.plan_program.specs.Chosen.{given_to}
use Rattle.plan_program.specs.FieldValues.{key_of_input}
use Rattle.plan_program.specs.Groups.{FieldOf, GroupOf}

-- the name of the variable that a value is
abbrev pub variable_in : Value → Option (List ℕ)
variable_in (Variable p name) = Some name
variable_in _ = None

-- the variable that is given for the only one of these arguments
abbrev pub only_variable : List literal.Argument → List Argument → Option (List ℕ)
only_variable given [] = None
only_variable given (a ∷ []) = option_and_then variable_in (given_to given a.name.text)
only_variable given (a ∷ b ∷ as') = None

abbrev pub defined_variable : FieldOf → Option Field → Option (List ℕ)
defined_variable f None = None
defined_variable f (Some d) = only_variable f.arguments d.arguments

abbrev pub first_variable : PlanOf → List ℕ → List FieldOf → Option (List ℕ)
first_variable plan ty [] = None
first_variable plan ty (f ∷ fs) = defined_variable f (field_in plan.definitions ty f.name)

-- the variable that gives the only argument that the field of a group has
abbrev pub group_variable : PlanOf → List ℕ → GroupOf → Option (List ℕ)
group_variable plan ty g = first_variable plan ty g.fields

-- the key that the value of a variable is
abbrev pub key_of_variable : PlanOf → List ℕ → Option KeyOf
key_of_variable plan name = option_and_then key_of_input (value_in plan.variables name)

abbrev pub key_by_variable : PlanOf → List ℕ → GroupOf → Option KeyOf
key_by_variable plan ty g = option_and_then (key_of_variable plan) (group_variable plan ty g)
