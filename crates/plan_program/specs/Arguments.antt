-- The coerced arguments of a field (section 6.4.1, CoerceArgumentValues).
use Rattle.std.specs.Prelude.{◌≡◌, ℕ, Bool, List, [], ◌∷◌, ◌++◌, Option, Some, None, if◌then◌else◌}
use Rattle.text_place.specs.declared.place.Place.{Place}
use Rattle.gq_parser.specs.Tree.{TypeTree, Named, ListOf, Value, Variable, Array}
use Rattle.gq_parser.specs.Tree as literal
use Rattle.schema_syntax.specs.Tree.{Argument, Field}
use Rattle.gq_schema.specs.Inputs.{Input, Null}
use Rattle.gq_schema.specs.Types.{field_in, is_non_null}
use Rattle.gq_schema.specs.Coercion.{named_value, all_items, list_input, one_item, coerced}
use Rattle.gq_variables.specs.Variables.{value_in}
use Rattle.gq_check.specs.Plans.{PlanOf}
use Rattle.plan_program.specs.Chosen.{given_to}
use Rattle.plan_program.specs.Groups.{FieldOf, GroupOf}

-- null, where a type may be null
abbrev pub null_input : Bool → Option Input
null_input non_null = if non_null then None else Some Null

-- The value of a variable, which is of its own type. Null isn't right at a non-null type, and an absent variable is null.
abbrev pub variable_value : Bool → Option Input → Option Input
variable_value non_null None = null_input non_null
variable_value non_null (Some Null) = null_input non_null
variable_value non_null (Some i) = Some i

-- gives what a literal with its variables gives at the type of this name, where it is right
abbrev pub name_value : PlanOf → List ℕ → Bool → Value → Option Input
name_value plan name non_null (Variable p v) = variable_value non_null (value_in plan.variables v)
name_value plan name non_null v = named_value None plan.definitions name non_null v

-- the input is what a literal gives at a type, where that is a name
abbrev pub IsValueAtName : PlanOf → TypeTree → Value → Option Input → Type 0
IsValueAtName plan t v input = (p : Place) (name : List ℕ) (non_null : Bool)
    → t ≡ Named p name non_null → input ≡ name_value plan name non_null v

-- gives the same at a list, where item says what a literal gives at its items
abbrev pub list_value : PlanOf → (Value → Option Input) → Bool → Value → Option Input
list_value plan item non_null (literal.Null p) = null_input non_null
list_value plan item non_null (Variable p v) = variable_value non_null (value_in plan.variables v)
list_value plan item non_null (Array p vs) = list_input (all_items item vs)
list_value plan item non_null v = one_item (item v)

abbrev pub literal_value : PlanOf → TypeTree → Value → Option Input
literal_value plan (Named p name non_null) v = name_value plan name non_null v
literal_value plan (ListOf p t non_null) v = list_value plan (literal_value plan t) non_null v

-- an argument's value, that it has none, or that it has the field error
pub data Coerced : Type 0 where
  absent : Coerced
  present : Input → Coerced
  refused : Coerced

abbrev pub or_refused : Option Input → Coerced
or_refused None = refused
or_refused (Some i) = present i

-- no value is the field error at a non-null type
abbrev pub default_value : PlanOf → TypeTree → Option Value → Coerced
default_value plan t None = if is_non_null t then refused else absent
default_value plan t (Some v) = or_refused (coerced plan.definitions t v)

abbrev pub by_variable : PlanOf → Argument → Option Input → Coerced
by_variable plan a None = default_value plan a.of_type a.default
by_variable plan a (Some i) = or_refused (variable_value (is_non_null a.of_type) (Some i))

-- the value of an argument from what is given for it; the default where nothing is, or an absent variable
abbrev pub argument_value : PlanOf → Argument → Option Value → Coerced
argument_value plan a None = default_value plan a.of_type a.default
argument_value plan a (Some (Variable p v)) = by_variable plan a (value_in plan.variables v)
argument_value plan a (Some v) = or_refused (literal_value plan a.of_type v)

-- gives the same from all that is given
abbrev pub value_given : PlanOf → List literal.Argument → Argument → Coerced
value_given plan given a = argument_value plan a (given_to given a.name.text)

pub record ValueOf : Type 0 where
  pub name : List ℕ
  pub value : Input

-- the arguments that have a value, or the name of the first that has the field error
pub data ArgumentsOf : Type 0 where
  all_values : List ValueOf → ArgumentsOf
  null_argument : List ℕ → ArgumentsOf

-- these values, and then others
abbrev pub values_before : List ValueOf → ArgumentsOf → ArgumentsOf
values_before vs (all_values others) = all_values (vs ++ others)
values_before vs (null_argument name) = null_argument name

abbrev pub and_then : List ℕ → Coerced → ArgumentsOf → ArgumentsOf
and_then name absent others = others
and_then name (present i) others = values_before (record { name = name; value = i } ∷ []) others
and_then name refused others = null_argument name

-- in order of definition
abbrev pub coerced_arguments : PlanOf → List literal.Argument → List Argument → ArgumentsOf
coerced_arguments plan given [] = all_values []
coerced_arguments plan given (a ∷ as') =
    and_then a.name.text (value_given plan given a) (coerced_arguments plan given as')

abbrev pub field_arguments : PlanOf → List literal.Argument → Option Field → ArgumentsOf
field_arguments plan given None = all_values []
field_arguments plan given (Some f) = coerced_arguments plan given f.arguments

abbrev pub first_arguments : PlanOf → List ℕ → List FieldOf → ArgumentsOf
first_arguments plan ty [] = all_values []
first_arguments plan ty (f ∷ fs) =
    field_arguments plan f.arguments (field_in plan.definitions ty f.name)

-- the arguments of a group, by the definition of its field in the object type; all fields of a group have the same
abbrev pub arguments_of : PlanOf → List ℕ → GroupOf → ArgumentsOf
arguments_of plan ty g = first_arguments plan ty g.fields
