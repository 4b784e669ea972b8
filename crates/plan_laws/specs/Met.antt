-- The fields that the execution of a plan can meet, and what answers each.
use Rattle.std.specs.Prelude.{◌≡◌, ◌<◌, ℕ, Bool, true, false, List, [], ◌∷◌, length, Some, None, codes, bytes_eq}
use Rattle.gq_parser.specs.Tree.{TypeTree, Value}
use Rattle.schema_syntax.specs.Tree.{Argument, Definition, Field}
use Rattle.gq_schema.specs.Types.{root_in, field_in, core_of}
use Rattle.gq_schema.specs.Fault.{fault_of}
use Rattle.gq_schema.specs.Implements.{argument_in}
use Rattle.gq_bindings.specs.Types.{is_object_type}
use Rattle.gq_bindings.specs.Tree.{BindingsOf, StepOf, BindingOf, by_column, by_one, by_many, by_each, by_via, binding_in}
use Rattle.gq_bindings.specs.Reading.{bindings_of, accepted}
use Rattle.load_memory.specs.Rows.{RowOf}
use Rattle.execution.specs.Loads.{IsOneOf}
use Rattle.gq_check.specs.Plans.{PlanOf}
use Rattle.gq_check.specs.Planned.{IsPlan}
use Rattle.plan_program.specs.Chosen.{given_to}
use Rattle.plan_program.specs.Groups.{FieldOf, GroupOf, selections_in, nothing_collected, collect, collect_subfields}
use Rattle.plan_program.specs.Arguments.{ValueOf, arguments_of}
use Rattle.plan_program.specs.FieldValues.{ChildrenOf, ValueFrom, cell, first_row, all_rows, joined_rows, input_named, key_from, with_key, each_asked, with_arguments, sets_below, children_of, prepared}
use Rattle.plan_program.specs.PlanPrograms.{object_type, type_of_row}

-- an object of this type can stand where a type of this name is wanted: some row tells so
abbrev pub MayStand : List Definition → List ℕ → List ℕ → Type 0
MayStand defs name object = (row : RowOf) × (type_of_row defs name row ≡ object_type object)

abbrev pub is_typename : FieldOf → Bool
is_typename f = bytes_eq f.name (codes "__typename")

-- the first field of a group, by which it is answered, where that isn't `__typename`
pub record IsAskedBy (g : GroupOf) (f : FieldOf) : Type 0 where
  pub others : List FieldOf
  pub first : g.fields ≡ f ∷ others
  pub plain : is_typename f ≡ false

-- The groups that the execution of a plan can meet, each with the type of the object that it is of: those of the root, and
-- those of an object below a group that it meets.
pub data CanBeMet (plan : PlanOf) : List ℕ → GroupOf → Type 0 where
  of_root : {g : GroupOf} → IsOneOf g (collect plan (root_in plan.definitions)
      (selections_in plan.operation.selection_set)) → CanBeMet plan (root_in plan.definitions) g
  inside : {ty object : List ℕ} {g h : GroupOf} {f : FieldOf} {d : Field}
      → CanBeMet plan ty g → IsAskedBy g f → field_in plan.definitions ty f.name ≡ Some d
      → MayStand plan.definitions (core_of d.of_type).text object
      → IsOneOf h (collect_subfields plan object nothing_collected (sets_below g.fields)).groups
      → CanBeMet plan object h

-- execution can meet the group, which this field answers
pub record IsMetBy (plan : PlanOf) (ty : List ℕ) (g : GroupOf) (f : FieldOf) : Type 0 where
  pub met : CanBeMet plan ty g
  pub asked : IsAskedBy g f

-- the group has a field
pub record HasFirst (g : GroupOf) : Type 0 where
  pub first : FieldOf
  pub others : List FieldOf
  pub is : g.fields ≡ first ∷ others

-- a literal that the field is given for an argument of its definition in the object type
pub record IsGiven (plan : PlanOf) (ty : List ℕ) (f : FieldOf) (a : Argument)
    (v : Value) : Type 0 where
  pub definition : Field
  pub defined : field_in plan.definitions ty f.name ≡ Some definition
  pub name : List ℕ
  pub argument : argument_in definition.arguments name ≡ Some a
  pub given : given_to f.arguments name ≡ Some v

-- execution can meet a field that is given this literal for this argument
pub record CanHave (plan : PlanOf) (a : Argument) (v : Value) : Type 0 where
  pub ty : List ℕ
  pub group : GroupOf
  pub field : FieldOf
  pub met : IsMetBy plan ty group field
  pub given : IsGiven plan ty field a v

-- ---- what answers them

abbrev pub StepsThere : ℕ → List StepOf → Type 0
StepsThere n [] = Unit {0}
StepsThere n (s ∷ ss) = (s.loader < n) × StepsThere n ss

-- the loaders that a binding names are among the first n
abbrev pub AreThere : ℕ → BindingOf → Type 0
AreThere n (by_column column) = Unit {0}
AreThere n (by_one loader key) = loader < n
AreThere n (by_many loader key) = loader < n
AreThere n (by_each loader argument) = loader < n
AreThere n (by_via loader key steps) = (loader < n) × StepsThere n steps

-- a field of this type has a binding, and the loaders that it names are there
pub record IsBound (b : BindingsOf) (ty name : List ℕ) : Type 0 where
  pub binding : BindingOf
  pub bound : binding_in b.fields ty name ≡ Some binding
  pub there : AreThere (length b.loaders) binding

-- gives what a binding asks, with its loaders there
abbrev pub asked_by_binding : TypeTree → ChildrenOf → List ValueOf → BindingOf → ValueFrom
asked_by_binding t below values (by_column column) = cell column t
asked_by_binding t below values (by_one loader key) =
    with_key (key_from values key) (λ k. first_row loader k below)
asked_by_binding t below values (by_many loader key) =
    with_key (key_from values key) (λ k. all_rows loader k below)
asked_by_binding t below values (by_each loader name) =
    each_asked loader below (input_named name values)
asked_by_binding t below values (by_via loader key steps) =
    with_key (key_from values key) (λ k. joined_rows loader k steps below)

-- The object type has a definition of the field, this is bound, and what the group asks is what the binding asks with the
-- arguments' values.
pub record AsksItsBinding (plan : PlanOf) (ty : List ℕ) (g : GroupOf) (f : FieldOf) : Type 0 where
  pub definition : Field
  pub defined : field_in plan.definitions ty f.name ≡ Some definition
  pub bound : IsBound plan.bindings ty f.name
  pub asks : (prepared plan ty g).asked ≡ with_arguments (arguments_of plan ty g)
      (λ values. asked_by_binding definition.of_type
      (children_of definition.of_type f.place g.fields) values bound.binding)

-- a type has a definition of a field
abbrev pub IsDefined : List Definition → List ℕ → List ℕ → Type 0
IsDefined defs ty name = (d : Field) × (field_in defs ty name ≡ Some d)

-- each field of each object type is bound
abbrev pub BindsFields : List Definition → BindingsOf → Type 0
BindsFields defs b = (ty name : List ℕ) (d : Field) → is_object_type defs ty ≡ true
    → field_in defs ty name ≡ Some d → IsBound b ty name

-- the loaders that bindings name are defined there
abbrev pub NamesItsLoaders : BindingsOf → Type 0
NamesItsLoaders b = (ty name : List ℕ) (binding : BindingOf)
    → binding_in b.fields ty name ≡ Some binding → AreThere (length b.loaders) binding

-- ---- plans over one schema

-- the bindings were read of some text over these definitions
pub record AreRead (defs : List Definition) (b : BindingsOf) : Type 0 where
  pub text : List ℕ
  pub accepts : bindings_of defs text ≡ accepted b

-- the plan is of a valid document, and its definitions are a schema
pub record IsOverSchema (plan : PlanOf) : Type 0 where
  pub valid : IsPlan plan
  pub keeps : fault_of plan.definitions ≡ None

-- says the same, and its bindings were read over that schema
pub record IsOverOne (plan : PlanOf) : Type 0 where
  pub schema : IsOverSchema plan
  pub read : AreRead plan.definitions plan.bindings
