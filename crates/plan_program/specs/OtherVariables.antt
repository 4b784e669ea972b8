-- Definitions of a plan with other values of its variables: when the same selections count, and
-- which groups ask for the same.
use Rattle.std.specs.Prelude.{◌≡◌, ℕ, Bool, true, false, List, [], ◌∷◌}
use Rattle.std.specs.List.{list_all}
use Rattle.gq_parser.specs.Tree.{Value, Variable, Argument, Array, Object}
use Rattle.gq_variables.specs.Variables.{VariableOf, value_in}
use Rattle.gq_check.specs.Plans.{PlanOf}
use Rattle.plan_program.specs.Chosen.{is_true_input}
use Rattle.plan_program.specs.Groups.{FieldOf, GroupOf}

-- the same plan with other variables
abbrev pub with_variables : PlanOf → List VariableOf → PlanOf
with_variables plan vs = record {
  definitions = plan.definitions;
  bindings = plan.bindings;
  operation = plan.operation;
  fragments = plan.fragments;
  variables = vs;
}

-- The variable of this name is true with both values or with neither. Directives see no more of
-- a variable.
abbrev pub AgreesAt : PlanOf → List VariableOf → List ℕ → Type 0
AgreesAt plan vs name =
    is_true_input (value_in vs name) ≡ is_true_input (value_in plan.variables name)

-- every variable is true with both values or with neither, so the same selections count
abbrev pub AgreesOnDirectives : PlanOf → List VariableOf → Type 0
AgreesOnDirectives plan vs = (name : List ℕ) → AgreesAt plan vs name

-- It holds no variable: it is none, and no list or object, which may hold one.
abbrev pub is_plain : Value → Bool
is_plain (Variable p name) = false
is_plain (Array p vs) = false
is_plain (Object p ms) = false
is_plain _ = true

abbrev pub are_plain : List Argument → Bool
are_plain given = list_all (λ (a : Argument). is_plain a.value) given

abbrev pub is_first_fixed : List FieldOf → Bool
is_first_fixed [] = true
is_first_fixed (f ∷ fs) = are_plain f.arguments

-- what is given for the arguments of a group's first field holds no variable
abbrev pub is_fixed : GroupOf → Bool
is_fixed g = is_first_fixed g.fields

abbrev pub are_fixed : List GroupOf → Bool
are_fixed gs = list_all is_fixed gs
