-- A literal of a valid document that a field is given is right at its argument's type, unless a variable in it has no value.
use Rattle.std.proofs.Common.{◌≡◌, ◌↔◌, ◌∙◌, sym, ap, subst, refl, ℕ, Bool, true, false, List, [], ◌∷◌, ◌++◌, map, flat_map, Option, Some, None, inl, inr, arith}
use Rattle.std.specs.Prelude.{option_map, find, is_some, filter_map, bytes_eq}
use Rattle.std.proofs.lemmas.Bool.{or_parts, and_parts}
use Rattle.std.proofs.lemmas.Slice.Eq.{bytes_eq-Decides}
use Rattle.gq_parser.specs.Tree.{TypeTree, Named, ListOf, Value, Variable, Array, Values, no_value, and_value}
use Rattle.gq_parser.specs.Tree as literal
use Rattle.schema_syntax.specs.Tree.{Definition, Argument, Field}
use Rattle.gq_schema.specs.Fault.{fault_of}
use Rattle.gq_schema.specs.Types.{field_in, is_same_flag, is_same_type, is_argument}
use Rattle.gq_schema.specs.Inputs.{Input, Null, Inputs}
use Rattle.gq_schema.specs.Implements.{argument_in, has_argument}
use Rattle.gq_schema.specs.Coercion.{and_items, all_items, list_input, one_item, list_value, value_with, accepts}
use Rattle.rules_parts.specs.Parts.{FieldPart, ArgumentPart, PartsOf}
use Rattle.rules_parts.specs.Listing.{parts_of, field_arguments, directive_arguments, argument_with, listed_arguments}
use Rattle.rules_typed.specs.ArgumentNames.{unknown_argument, type_name_arguments}
use Rattle.rules_typed.specs.ValuesOfCorrectType.{wrong_argument, wrong_variable}
use Rattle.gq_variables.specs.Variables.{value_in}
use Rattle.execution.specs.Loads.{IsOneOf}
use Rattle.gq_check.specs.Plans.{PlanOf}
use Rattle.gq_check.specs.Planned.{IsPlan}
use Rattle.gq_check.specs.Valid.{KeepsRules}
use Rattle.gq_check.proofs.Validity.{valid-keeps}
use Rattle.plan_program.specs.Arguments.{variable_value, list_value as with_variables, literal_value}
use Rattle.plan_program.specs.Chosen.{is_named, given_to}
use Rattle.plan_program.specs.Groups.{FieldOf, GroupOf}
use Rattle.plan_laws.specs.Met.{IsAskedBy, CanBeMet}
use Rattle.plan_laws.specs.Unset.{is_unset, has_unset, has_unset_among}
use Rattle.plan_laws.proofs.Options.{by_option, map-given, found-one, got-one, none-kept, one-left, one-right}
use Rattle.plan_laws.proofs.Schemas.{serves-argument}
use Rattle.plan_laws.proofs.Meeting.{met-good, served}

-- ---- what a literal gives

module _ (plan : PlanOf) where
  set-value : (non_null : Bool) (o : Option Input) → is_unset o ≡ false → is_some (variable_value non_null o) ≡ true
  set-value non_null o e = grind arith

  -- the literal gives a value at a type whose variables have values, where it is right whatever they are
  abbrev IsRight : (Value → Option Input) → (Value → Option Input) → Type 0
  IsRight any own = (v : Value) → is_some (any v) ≡ true → has_unset plan v ≡ false → is_some (own v) ≡ true

  both : (o : Option Input) (p : Option Inputs) → (is_some (and_items o p) ≡ true) ↔ ((is_some o ≡ true) × (is_some p ≡ true))
  both o p = (λ e. grind arith, λ e. grind arith)

  items-right : (any own : Value → Option Input) → IsRight any own → (vs : Values) → is_some (all_items any vs) ≡ true → has_unset_among plan vs ≡ false → is_some (all_items own vs) ≡ true
  items-right any own right no_value e u = refl
  items-right any own right (and_value v vs) e u =
      let somes = (both (any v) (all_items any vs)).0 e in
      let unset = or_parts (has_unset plan v) (has_unset_among plan vs) u in
      (both (own v) (all_items own vs)).1 (right v somes.0 unset.0, items-right any own right vs somes.1 unset.1)

  list-some : (o : Option Inputs) → is_some (list_input o) ≡ is_some o
  list-some o = grind arith

  one-some : (o : Option Input) → is_some (one_item o) ≡ is_some o
  one-some o = grind arith

  name-right : (name : List ℕ) (non_null : Bool) (p : _) → IsRight (value_with (Some Null) plan.definitions (Named p name non_null)) (literal_value plan (Named p name non_null))
  name-right name non_null p (Variable q v) e u = set-value non_null (value_in plan.variables v) u
  name-right name non_null p v e u = e

  list-right : (any own : Value → Option Input) (non_null : Bool) → IsRight any own → IsRight (list_value (Some Null) any non_null) (with_variables plan own non_null)
  list-right any own non_null right (literal.Null q) e u = e
  list-right any own non_null right (Variable q v) e u = set-value non_null (value_in plan.variables v) u
  list-right any own non_null right (Array q vs) e u = list-some (all_items own vs) ∙ items-right any own right vs (sym (list-some (all_items any vs)) ∙ e) u
  list-right any own non_null right v e u = one-some (own v) ∙ right v (sym (one-some (any v)) ∙ e) u

  right-at : (t : TypeTree) → IsRight (value_with (Some Null) plan.definitions t) (literal_value plan t)
  right-at (Named p name non_null) = name-right name non_null p
  right-at (ListOf p t non_null) = list-right (value_with (Some Null) plan.definitions t) (literal_value plan t) non_null (right-at t)

-- ---- types that differ in their places alone

same-flag : (a b : Bool) → is_same_flag a b ≡ true → a ≡ b
same-flag a b e = grind arith

same-value : (i : Option Input) (defs : List Definition) (t u : TypeTree) → is_same_type t u ≡ true → value_with i defs t ≡ value_with i defs u
same-value i defs (Named p n non_null) (Named q m wanted) e =
    let both = and_parts (is_same_flag non_null wanted) (bytes_eq n m) e in
    rw (same-flag non_null wanted both.0, (bytes_eq-Decides n m).0 both.1) refl
same-value i defs (ListOf p t non_null) (ListOf q u wanted) e =
    let both = and_parts (is_same_flag non_null wanted) (is_same_type t u) e in
    ap (list_value i (value_with i defs t)) (same-flag non_null wanted both.0) ∙ ap (λ (f : Value → Option Input). list_value i f wanted) (same-value i defs t u both.1)
same-value i defs t u e = absurd (cc e)

-- ---- the arguments of a field of a document

flat-one : {A B : Type 0} (f : A → List B) (xs : List A) (x : A) (y : B) → IsOneOf x xs → IsOneOf y (f x) → IsOneOf y (flat_map f xs)
flat-one f [] x y i j = absurd i
flat-one {A} {B} f (z ∷ zs) x y (inl same) j = one-left (f z) (flat_map f zs) y (subst (λ (w : A). IsOneOf y (f w)) same j)
flat-one f (z ∷ zs) x y (inr i) j = one-right (f z) (flat_map f zs) y (flat-one f zs x y i j)

map-one : {A B : Type 0} (f : A → B) (xs : List A) (x : A) → IsOneOf x xs → IsOneOf (f x) (map f xs)
map-one f [] x i = absurd i
map-one f (z ∷ zs) x (inl same) = inl (ap f same)
map-one f (z ∷ zs) x (inr i) = inr (map-one f zs x i)

none-left : {A : Type 0} (xs ys : List A) → xs ++ ys ≡ [] → xs ≡ []
none-left [] ys h = refl
none-left (x ∷ xs) ys h = absurd (cc h)

module _ (defs : List Definition) (d : literal.Document) (keeps : KeepsRules (parts_of defs d)) where
  abbrev p : PartsOf
  p = parts_of defs d

  abbrev argument_of : FieldPart → literal.Argument → ArgumentPart
  argument_of f a = argument_with f.owner (option_map (λ (x : Field). x.arguments) f.definition) a

  among-arguments : (f : FieldPart) (a : literal.Argument) → IsOneOf f p.fields → IsOneOf a f.arguments → IsOneOf (argument_of f a) p.arguments
  among-arguments f a i j =
      flat-one listed_arguments p.argument_lists (field_arguments f) (argument_of f a)
      (one-left (map field_arguments p.fields) (flat_map directive_arguments p.directive_lists) (field_arguments f) (map-one field_arguments p.fields f i))
      (map-one (argument_with f.owner (option_map (λ (x : Field). x.arguments) f.definition)) f.arguments a j)

  -- the definition of an argument that is given, at whose type its literal is right
  record IsAccepted (w : Field) (a : literal.Argument) : Type 0 where
    wanted : Argument
    found : argument_in w.arguments a.name ≡ Some wanted
    accepted : accepts defs wanted.of_type a.value ≡ true

  accepted-by : (f : FieldPart) (w : Field) (a : literal.Argument) → IsOneOf f p.fields → f.definition ≡ Some w → IsOneOf a f.arguments → IsAccepted w a
  accepted-by f w a i e j =
      let part : ArgumentPart = record { owner = f.owner; is_known = true; definition = argument_in w.arguments a.name; place = a.place; name = a.name; value = a.value } in
      let one : IsOneOf part p.arguments = rw e at (among-arguments f a i j) in
      let known : unknown_argument part ≡ None = none-kept unknown_argument p.arguments part (none-left (filter_map unknown_argument p.arguments) (flat_map type_name_arguments p.fields) keeps.argument_names) one in
      let right : wrong_argument defs part ≡ None = none-kept (wrong_argument defs) p.arguments part (none-left (filter_map (wrong_argument defs) p.arguments) (filter_map (wrong_variable defs) p.variables) keeps.values) one in
      by_option (λ o. argument_in w.arguments a.name ≡ o → IsAccepted w a) (argument_in w.arguments a.name) (λ h _. absurd (grind arith)) (λ x h _. record { wanted = x; found = h; accepted = grind arith }) refl

-- ---- what is met

same-named : (own : List Argument) (wanted : Argument) (name : List ℕ) (a : Argument) → has_argument own wanted ≡ true → name ≡ wanted.name.text → argument_in own name ≡ Some a → is_same_type a.of_type wanted.of_type ≡ true
same-named own wanted name a has same found = let at : argument_in own wanted.name.text ≡ Some a = rw same at found in rw at at has

-- a literal that is given for an argument of a field that is met
pub met-right : (plan : PlanOf) → IsPlan plan → fault_of plan.definitions ≡ None → (ty : List ℕ) (g : GroupOf) (f : FieldOf) (d : Field) (name : List ℕ) (a : Argument) (v : Value) → CanBeMet plan ty g → IsAskedBy g f
    → field_in plan.definitions ty f.name ≡ Some d → argument_in d.arguments name ≡ Some a → given_to f.arguments name ≡ Some v → has_unset plan v ≡ false → is_some (literal_value plan a.of_type v) ≡ true
met-right plan is kept ty g f d name a v met asked field argument given unset =
    let good = met-good plan is kept ty g met in
    let first : IsOneOf f g.fields = subst (IsOneOf f) (sym asked.first) (inl refl) in
    let m = good.group.members f first in
    let s = served plan.definitions is.document plan (valid-keeps (parts_of plan.definitions is.document) is.valid) kept refl is.same ty good.numbers f good.object asked.plain m in
    let x = map-given (λ (b : literal.Argument). b.value) (find (is_named name) f.arguments) v given in
    let one = found-one (is_named name) f.arguments x.0 x.1 in
    let there = subst (IsOneOf x.0) m.given one.0 in
    let within = got-one (parts_of plan.definitions is.document).fields m.number m.part m.there in
    let ok = accepted-by plan.definitions is.document (valid-keeps (parts_of plan.definitions is.document) is.valid) m.part s.0 x.0 within s.1 there in
    let called : name ≡ x.0.name = (bytes_eq-Decides name x.0.name).0 one.1 in
    let own : Some s.2.own ≡ Some d = sym s.2.found ∙ field in
    let same : s.2.own ≡ d = cc in
    let among = found-one (is_argument x.0.name) s.0.arguments ok.wanted ok.found in
    let wanted : x.0.name ≡ ok.wanted.name.text = (bytes_eq-Decides x.0.name ok.wanted.name.text).0 among.1 in
    let alike : value_with (Some Null) plan.definitions a.of_type ≡ value_with (Some Null) plan.definitions ok.wanted.of_type = elim s.2.fits_in [
      | inl e ↦
          let found : Some a ≡ Some ok.wanted = sym argument ∙ (ap (λ (w : Field). argument_in w.arguments name) (sym same ∙ e) ∙ (ap (argument_in s.0.arguments) called ∙ ok.found)) in
          let it : a ≡ ok.wanted = cc in
          ap (λ (b : Argument). value_with (Some Null) plan.definitions b.of_type) it
      | inr e ↦
          let has : has_argument d.arguments ok.wanted ≡ true = ap (λ (w : Field). has_argument w.arguments ok.wanted) (sym same) ∙ serves-argument plan.definitions kept s.0 s.2.own ok.wanted e among.0 in
          same-value (Some Null) plan.definitions a.of_type ok.wanted.of_type (same-named d.arguments ok.wanted name a has (called ∙ wanted) argument)
    ] in
    let right : is_some (value_with (Some Null) plan.definitions a.of_type v) ≡ true =
    ap (λ (w : Value → Option Input). is_some (w v)) alike ∙ (ap (λ (w : Value). is_some (value_with (Some Null) plan.definitions ok.wanted.of_type w)) (sym x.2) ∙ ok.accepted) in
    right-at plan a.of_type v right unset
