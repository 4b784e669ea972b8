-- Lemmas on what a group asks whose field has a definition, a binding and the binding's loaders.
use Rattle.std.proofs.Common.{◌≡◌, ◌∙◌, ap, refl, ℕ, true, false, List, [], ◌∷◌, length, Option, Some}
use Rattle.std.specs.Prelude.{bytes_eq, codes}
use Rattle.std.proofs.lemmas.Bool.{lt-ltb}
use Rattle.std.proofs.Math.Path.{fun_ext}
use Rattle.gq_parser.specs.Tree.{TypeTree}
use Rattle.schema_syntax.specs.Tree.{Field}
use Rattle.gq_schema.specs.Types.{field_in}
use Rattle.gq_bindings.specs.Tree.{StepOf, BindingOf, by_column, by_one, by_many, by_each, by_via}
use Rattle.gq_check.specs.Plans.{PlanOf}
use Rattle.plan_program.specs.Groups.{FieldOf, GroupOf}
use Rattle.plan_program.specs.Arguments.{ValueOf, arguments_of}
use Rattle.plan_program.specs.FieldValues.{ChildrenOf, have_loaders, bound_asked, children_of, with_arguments, defined_asked, first_asked, prepared}
use Rattle.plan_laws.specs.Met.{IsAskedBy, StepsThere, AreThere, IsBound, asked_by_binding}

steps-have : (n : ℕ) (steps : List StepOf) → StepsThere n steps → have_loaders steps n ≡ true
steps-have n [] h = refl
steps-have n (s ∷ ss) h = rw (lt-ltb s.loader n h.0, steps-have n ss h.1) refl

module _ (plan : PlanOf) where
  bound-asks : (t : TypeTree) (b : ChildrenOf) (values : List ValueOf) (binding : BindingOf) → AreThere (length plan.bindings.loaders) binding → bound_asked plan t b values (Some binding) ≡ asked_by_binding t b values binding
  bound-asks t b values (by_column column) h = refl
  bound-asks t b values (by_one loader key) h = rw (lt-ltb loader (length plan.bindings.loaders) h) refl
  bound-asks t b values (by_many loader key) h = rw (lt-ltb loader (length plan.bindings.loaders) h) refl
  bound-asks t b values (by_each loader name) h = rw (lt-ltb loader (length plan.bindings.loaders) h) refl
  bound-asks t b values (by_via loader key steps) h = rw (lt-ltb loader (length plan.bindings.loaders) h.0, steps-have (length plan.bindings.loaders) steps h.1) refl

  pub group-asks : (ty : List ℕ) (g : GroupOf) (f : FieldOf) (d : Field) → IsAskedBy g f → field_in plan.definitions ty f.name ≡ Some d → (bound : IsBound plan.bindings ty f.name)
      → (prepared plan ty g).asked ≡ with_arguments (arguments_of plan ty g) (λ values. asked_by_binding d.of_type (children_of d.of_type f.place g.fields) values bound.binding)
  group-asks ty g f d by field bound =
      let plain : bytes_eq f.name (codes "__typename") ≡ false = by.plain in
      let inner = fun_ext (λ (values : List ValueOf). ap (bound_asked plan d.of_type (children_of d.of_type f.place g.fields) values) bound.bound ∙ bound-asks d.of_type (children_of d.of_type f.place g.fields) values bound.binding bound.there) in
      ap (λ (fs : List FieldOf). (first_asked plan ty g fs).asked) by.first ∙ rw plain (ap (λ (o : Option Field). (defined_asked plan ty f g o).asked) field ∙ ap (with_arguments (arguments_of plan ty g)) inner)
