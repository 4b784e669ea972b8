-- Literals with a variable that has no value.
use Rattle.std.specs.Prelude.{◌≡◌, Bool, true, false, ◌||◌, Option, Some, None, is_some}
use Rattle.gq_parser.specs.Tree.{TypeTree, Value, Variable, Array, Values, no_value, and_value}
use Rattle.gq_schema.specs.Inputs.{Input, Null}
use Rattle.gq_variables.specs.Variables.{value_in}
use Rattle.gq_check.specs.Plans.{PlanOf}
use Rattle.plan_program.specs.Arguments.{literal_value}

-- no value, or null
abbrev pub is_unset : Option Input → Bool
is_unset None = true
is_unset (Some Null) = true
is_unset _ = false

-- the literal is right at a type
abbrev pub IsRight : PlanOf → TypeTree → Value → Type 0
IsRight plan ty v = is_some (literal_value plan ty v) ≡ true

-- a variable in the literal has no value, or null
abbrev mutual
  pub has_unset : PlanOf → Value → Bool
  has_unset plan (Variable p name) = is_unset (value_in plan.variables name)
  has_unset plan (Array p vs) = has_unset_among plan vs
  has_unset plan _ = false

  pub has_unset_among : PlanOf → Values → Bool
  has_unset_among plan no_value = false
  has_unset_among plan (and_value v vs) = has_unset plan v || has_unset_among plan vs
