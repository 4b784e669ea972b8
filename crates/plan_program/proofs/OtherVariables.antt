-- What a plan with other values of its variables has in common with the plan.
use Rattle.std.proofs.Common.{◌≡◌, ◌∙◌, ℕ, zero, suc, Bool, true, false, List, [], ◌∷◌, map, length, Option, Some, None, refl, sym, ap, subst, bytes_eq, cond, if◌then◌else◌, arith}
use Rattle.std.specs.Prelude.{◌||◌, ◌&&◌, not, nat_lt, find, codes, option_map}
use Rattle.std.specs.List.{All}
use Rattle.std.specs.Option.{option_map_or}
use Rattle.std.proofs.lemmas.Slice.Eq.{bytes_eq-Decides}
use Rattle.gq_parser.specs.Tree.{TypeTree, Named, ListOf, Value, Variable, Float, Enum, Array, Object, Argument, Directive, Selection, Field, Spread, Inline, Below, SelectionSet, set_at, Selections, no_selection, and_selection, Fragment}
use Rattle.gq_parser.specs.Tree as literal
use Rattle.schema_syntax.specs.Tree as schema
use Rattle.gq_schema.specs.Types.{field_in, is_non_null}
use Rattle.gq_schema.specs.Inputs.{Input, Items}
use Rattle.gq_schema.specs.Inputs as input
use Rattle.gq_schema.specs.Coercion.{one_item}
use Rattle.gq_bindings.specs.Tree.{BindingOf, by_column, by_one, by_many, by_each, by_via, binding_in}
use Rattle.gq_variables.specs.Variables.{VariableOf, is_variable, value_in}
use Rattle.execution.specs.Program.{LeafValue, Null}
use Rattle.execution.specs.Program as leaf
use Rattle.gq_check.specs.Plans.{PlanOf, fragment_in}
use Rattle.plan_program.specs.Chosen.{is_true_input, is_true, given_to, is_named, leaves_out, is_left_out}
use Rattle.plan_program.specs.Groups.{FieldOf, GroupOf, Collected, Entering, collect_one, collect_set, collect_all, collect_from, collect, collect_subfields, enter_fragment, entering, nothing_collected, selections_below}
use Rattle.plan_program.specs.Arguments.{literal_value, or_refused, argument_value, Coerced, value_given, ArgumentsOf, ValueOf, all_values, null_argument, and_then, coerced_arguments, field_arguments, first_arguments, arguments_of}
use Rattle.plan_program.specs.FieldValues.{KeyFrom, ChildrenOf, ValueFrom, known, first_row, all_rows, joined_rows, input_named, key_from, have_loaders, with_steps, with_key, each_asked, bound_asked, children_of, with_arguments, defined_asked, first_asked, prepared, all_prepared, position_of}
use Rattle.plan_program.specs.OtherVariables.{with_variables, AgreesAt, AgreesOnDirectives, is_plain, are_plain, is_first_fixed, is_fixed, are_fixed}
use Rattle.plan_program.specs.RowUses.{First, Each, Joined, BelowOf, below_in}

-- ---- directives

module _ (plan : PlanOf) (vs : List VariableOf) (agrees : AgreesOnDirectives plan vs) where
  true-alike : (v : Value) → is_true (with_variables plan vs) v ≡ is_true plan v
  true-alike (Variable p name) = agrees name
  true-alike (literal.Int p t) = refl
  true-alike (Float p t) = refl
  true-alike (literal.Text p t) = refl
  true-alike (literal.Boolean p b) = refl
  true-alike (literal.Null p) = refl
  true-alike (Enum p t) = refl
  true-alike (Array p ws) = refl
  true-alike (Object p ms) = refl

  given-true : (o : Option Value) → option_map_or (is_true (with_variables plan vs)) o false ≡ option_map_or (is_true plan) o false
  given-true None = refl
  given-true (Some v) = true-alike v

  left-alike : (d : Directive) → leaves_out (with_variables plan vs) d ≡ leaves_out plan d
  left-alike d =
      ap (λ (h : Bool). if bytes_eq d.name (codes "skip") then h else (if bytes_eq d.name (codes "include") then not h else false))
      (given-true (given_to d.arguments (codes "if")))

  -- the same selections are left out
  pub left-out-alike : (ds : List Directive) → is_left_out (with_variables plan vs) ds ≡ is_left_out plan ds
  left-out-alike [] = refl
  left-out-alike (d ∷ ds) =
      ap (λ (b : Bool). b || is_left_out (with_variables plan vs) ds) (left-alike d) ∙ ap (λ (b : Bool). leaves_out plan d || b) (left-out-alike ds)

-- what holds of the name of each variable holds of each name that has a value
named : {V : Type 0} (seen : V → VariableOf) (P : List ℕ → Type 0) (xs : List V) → All (λ (x : V). P (seen x).name) xs → (name : List ℕ) (i : Input) → value_in (map seen xs) name ≡ Some i → P name
named seen P [] each name i e = absurd (cc e)
named seen P (x ∷ xs) each name i e = go (bytes_eq name (seen x).name) refl e (named seen P xs (λ k d lt. each (suc k) d (omega (arith, lt))) name i)
  where
    go : (b : Bool) → bytes_eq name (seen x).name ≡ b → value_in (map seen (x ∷ xs)) name ≡ Some i → (value_in (map seen xs) name ≡ Some i → P name) → P name
    go true is here later = subst P (sym ((bytes_eq-Decides name (seen x).name).0 is)) (each 0 x (omega arith))
    go false is here later = later (rw is at here)

-- variables that agree at the name of each of them agree at each name
pub agrees-by-names : {V : Type 0} (seen : V → VariableOf) (plan : PlanOf) (xs ys : List V) → map seen xs ≡ plan.variables
    → All (λ (x : V). AgreesAt plan (map seen ys) (seen x).name) xs → All (λ (y : V). AgreesAt plan (map seen ys) (seen y).name) ys → AgreesOnDirectives plan (map seen ys)
agrees-by-names seen plan xs ys same own others name = go (value_in plan.variables name) refl (value_in (map seen ys) name) refl
  where
    go : (a : Option Input) → value_in plan.variables name ≡ a → (b : Option Input) → value_in (map seen ys) name ≡ b → AgreesAt plan (map seen ys) name
    go (Some i) one b other = named seen (AgreesAt plan (map seen ys)) xs own name i (ap (λ (vs : List VariableOf). value_in vs name) same ∙ one)
    go None one (Some i) other = named seen (AgreesAt plan (map seen ys)) ys others name i other
    go None one None other = ap is_true_input (other ∙ sym one)

-- variables of which none is true are true by no name
untrue-by-name : {V : Type 0} (seen : V → VariableOf) (xs : List V) → All (λ (x : V). is_true_input (Some (seen x).value) ≡ false) xs → (name : List ℕ) → is_true_input (value_in (map seen xs) name) ≡ false
untrue-by-name seen [] each name = refl
untrue-by-name seen (x ∷ xs) each name = go (bytes_eq name (seen x).name) (untrue-by-name seen xs (λ k d lt. each (suc k) d (omega (arith, lt))) name)
  where
    go : (b : Bool) → is_true_input (value_in (map seen xs) name) ≡ false
        → is_true_input (option_map (λ (v : VariableOf). v.value) (cond b (Some (seen x)) (find (is_variable name) (map seen xs)))) ≡ false
    go true later = each 0 x (omega arith)
    go false later = later

-- two lists of which no variable is true agree at each name
pub agrees-untrue : {V : Type 0} (seen : V → VariableOf) (plan : PlanOf) (xs ys : List V) → map seen xs ≡ plan.variables
    → All (λ (x : V). is_true_input (Some (seen x).value) ≡ false) xs → All (λ (y : V). is_true_input (Some (seen y).value) ≡ false) ys → AgreesOnDirectives plan (map seen ys)
agrees-untrue seen plan xs ys same own others name =
    untrue-by-name seen ys others name ∙ sym (ap (λ (vs : List VariableOf). is_true_input (value_in vs name)) (sym same) ∙ untrue-by-name seen xs own name)

-- ---- collections

module _ (plan : PlanOf) (vs : List VariableOf) (agrees : AgreesOnDirectives plan vs) (ty : List ℕ) where
  abbrev Same : Entering → Entering → Type 0
  Same e f = (so_far : Collected) (name : List ℕ) → e so_far name ≡ f so_far name

  mutual
    one-alike : (e f : Entering) → Same e f → (s : Selection) → (so_far : Collected) → collect_one (with_variables plan vs) ty e so_far s ≡ collect_one plan ty f so_far s
    one-alike e f same (Field place alias name given ds b) so_far = rw (left-out-alike plan vs agrees ds) refl
    one-alike e f same (Spread place name ds) so_far = rw (left-out-alike plan vs agrees ds, same) refl
    one-alike e f same (Inline place condition ds set) so_far = rw (left-out-alike plan vs agrees ds, set-alike e f same set so_far) refl

    set-alike : (e f : Entering) → Same e f → (s : SelectionSet) → (so_far : Collected) → collect_set (with_variables plan vs) ty e so_far s ≡ collect_set plan ty f so_far s
    set-alike e f same (set_at place ss) so_far = all-alike e f same ss so_far

    all-alike : (e f : Entering) → Same e f → (ss : Selections) → (so_far : Collected) → collect_all (with_variables plan vs) ty e so_far ss ≡ collect_all plan ty f so_far ss
    all-alike e f same no_selection so_far = refl
    all-alike e f same (and_selection s ss) so_far =
        all-alike e f same ss (collect_one (with_variables plan vs) ty e so_far s) ∙ ap (λ (c : Collected). collect_all plan ty f c ss) (one-alike e f same s so_far)

  entering-alike : (n : ℕ) → Same (entering (with_variables plan vs) ty n) (entering plan ty n)
  entering-alike zero so_far name = refl
  entering-alike (suc n) so_far name = go (fragment_in plan.fragments name) (entering-alike n)
    where
      go : (o : Option Fragment) → Same (entering (with_variables plan vs) ty n) (entering plan ty n)
          → enter_fragment (with_variables plan vs) ty (entering (with_variables plan vs) ty n) so_far o ≡ enter_fragment plan ty (entering plan ty n) so_far o
      go None same = refl
      go (Some f) same = rw (set-alike (entering (with_variables plan vs) ty n) (entering plan ty n) same f.selection_set so_far) refl

  -- the same is collected
  pub collected-alike : (so_far : Collected) (ss : Selections) → collect_from (with_variables plan vs) ty so_far ss ≡ collect_from plan ty so_far ss
  collected-alike so_far ss =
      all-alike (entering (with_variables plan vs) ty (length plan.fragments)) (entering plan ty (length plan.fragments)) (entering-alike (length plan.fragments)) ss so_far

  pub groups-alike : (ss : Selections) → collect (with_variables plan vs) ty ss ≡ collect plan ty ss
  groups-alike ss = ap (λ (c : Collected). c.groups) (collected-alike nothing_collected ss)

  pub subfields-alike : (so_far : Collected) (bs : List Below) → collect_subfields (with_variables plan vs) ty so_far bs ≡ collect_subfields plan ty so_far bs
  subfields-alike so_far [] = refl
  subfields-alike so_far (b ∷ bs) =
      subfields-alike (collect_from (with_variables plan vs) ty so_far (selections_below b)) bs
      ∙ ap (λ (c : Collected). collect_subfields plan ty c bs) (collected-alike so_far (selections_below b))

-- ---- groups whose arguments hold no variable

module _ (plan : PlanOf) (vs : List VariableOf) where
  plain-alike : (t : TypeTree) (v : Value) → is_plain v ≡ true → literal_value (with_variables plan vs) t v ≡ literal_value plan t v
  plain-alike t (Variable p name) h = absurd (cc h)
  plain-alike t (Array p ws) h = absurd (cc h)
  plain-alike t (Object p ms) h = absurd (cc h)
  plain-alike (Named p name non_null) (literal.Int q u) h = refl
  plain-alike (Named p name non_null) (Float q u) h = refl
  plain-alike (Named p name non_null) (literal.Text q u) h = refl
  plain-alike (Named p name non_null) (literal.Boolean q b) h = refl
  plain-alike (Named p name non_null) (literal.Null q) h = refl
  plain-alike (Named p name non_null) (Enum q u) h = refl
  plain-alike (ListOf p t non_null) (literal.Int q u) h = ap one_item (plain-alike t (literal.Int q u) h)
  plain-alike (ListOf p t non_null) (Float q u) h = ap one_item (plain-alike t (Float q u) h)
  plain-alike (ListOf p t non_null) (literal.Text q u) h = ap one_item (plain-alike t (literal.Text q u) h)
  plain-alike (ListOf p t non_null) (literal.Boolean q b) h = ap one_item (plain-alike t (literal.Boolean q b) h)
  plain-alike (ListOf p t non_null) (literal.Null q) h = refl
  plain-alike (ListOf p t non_null) (Enum q u) h = ap one_item (plain-alike t (Enum q u) h)

  one-given : (a : schema.Argument) (v : Value) → is_plain v ≡ true → argument_value (with_variables plan vs) a (Some v) ≡ argument_value plan a (Some v)
  one-given a (Variable p name) h = absurd (cc h)
  one-given a (Array p ws) h = absurd (cc h)
  one-given a (Object p ms) h = absurd (cc h)
  one-given a (literal.Int p u) h = ap or_refused (plain-alike a.of_type (literal.Int p u) h)
  one-given a (Float p u) h = ap or_refused (plain-alike a.of_type (Float p u) h)
  one-given a (literal.Text p u) h = ap or_refused (plain-alike a.of_type (literal.Text p u) h)
  one-given a (literal.Boolean p b) h = ap or_refused (plain-alike a.of_type (literal.Boolean p b) h)
  one-given a (literal.Null p) h = ap or_refused (plain-alike a.of_type (literal.Null p) h)
  one-given a (Enum p u) h = ap or_refused (plain-alike a.of_type (Enum p u) h)

  both : (a b : Bool) → (a && b) ≡ true → (a ≡ true) × (b ≡ true)
  both true b h = (refl, h)
  both false b h = absurd (cc h)

  -- the value of the first argument that has the name, or of those after it
  pick-alike : (a : schema.Argument) (g : Argument) (later : Option Argument) (b : Bool) → is_plain g.value ≡ true
      → argument_value (with_variables plan vs) a (option_map (λ (x : Argument). x.value) later) ≡ argument_value plan a (option_map (λ (x : Argument). x.value) later)
      → argument_value (with_variables plan vs) a (option_map (λ (x : Argument). x.value) (cond b (Some g) later)) ≡ argument_value plan a (option_map (λ (x : Argument). x.value) (cond b (Some g) later))
  pick-alike a g later true h others = one-given a g.value h
  pick-alike a g later false h others = others

  value-alike : (given : List Argument) → are_plain given ≡ true → (a : schema.Argument) → value_given (with_variables plan vs) given a ≡ value_given plan given a
  value-alike [] h a = refl
  value-alike (g ∷ gs) h a =
      let p = both (is_plain g.value) (are_plain gs) h in
      pick-alike a g (find (is_named a.name.text) gs) (is_named a.name.text g) p.0 (value-alike gs p.1 a)

  pub coerced-alike : (given : List Argument) → are_plain given ≡ true → (defs : List schema.Argument) → coerced_arguments (with_variables plan vs) given defs ≡ coerced_arguments plan given defs
  coerced-alike given h [] = refl
  coerced-alike given h (a ∷ as') =
      ap (λ (c : Coerced). and_then a.name.text c (coerced_arguments (with_variables plan vs) given as')) (value-alike given h a)
      ∙ ap (λ (others : ArgumentsOf). and_then a.name.text (value_given plan given a) others) (coerced-alike given h as')

  module _ (ty : List ℕ) where
    field-arguments-alike : (given : List Argument) → are_plain given ≡ true → (d : Option schema.Field) → field_arguments (with_variables plan vs) given d ≡ field_arguments plan given d
    field-arguments-alike given h None = refl
    field-arguments-alike given h (Some d) = coerced-alike given h d.arguments

    first-arguments-alike : (fs : List FieldOf) → is_first_fixed fs ≡ true → first_arguments (with_variables plan vs) ty fs ≡ first_arguments plan ty fs
    first-arguments-alike [] h = refl
    first-arguments-alike (f ∷ fs) h = field-arguments-alike f.arguments h (field_in plan.definitions ty f.name)

    defined-alike : (f : FieldOf) (g : GroupOf) → is_fixed g ≡ true → (d : Option schema.Field) → defined_asked (with_variables plan vs) ty f g d ≡ defined_asked plan ty f g d
    defined-alike f g h None = refl
    defined-alike f g h (Some d) =
        ap (λ (given : ArgumentsOf). record {
          position = position_of g.key f.place (is_non_null d.of_type);
          asked = with_arguments given (λ values. bound_asked plan d.of_type (children_of d.of_type f.place g.fields) values (binding_in plan.bindings.fields ty f.name));
        }) (first-arguments-alike g.fields h)

    first-alike : (g : GroupOf) → is_fixed g ≡ true → (fs : List FieldOf) → first_asked (with_variables plan vs) ty g fs ≡ first_asked plan ty g fs
    first-alike g h [] = refl
    first-alike g h (f ∷ fs) = rw (defined-alike f g h (field_in plan.definitions ty f.name)) refl

    -- a group whose arguments hold no variable asks for the same
    pub prepared-alike : (g : GroupOf) → is_fixed g ≡ true → prepared (with_variables plan vs) ty g ≡ prepared plan ty g
    prepared-alike g h = first-alike g h g.fields

    -- and so do several
    pub all-prepared-alike : (gs : List GroupOf) → are_fixed gs ≡ true → all_prepared (with_variables plan vs) ty gs ≡ all_prepared plan ty gs
    all-prepared-alike [] h = refl
    all-prepared-alike (g ∷ gs) h =
        let p = both (is_fixed g) (are_fixed gs) h in
        rw (prepared-alike g p.0, all-prepared-alike gs p.1) refl

    -- the groups that are selected below ask for the same, where the directives leave out the same
    pub below-prepared-alike : AgreesOnDirectives plan vs → (bs : List Below) → are_fixed (collect_subfields plan ty nothing_collected bs).groups ≡ true
        → all_prepared (with_variables plan vs) ty (collect_subfields (with_variables plan vs) ty nothing_collected bs).groups ≡ all_prepared plan ty (collect_subfields plan ty nothing_collected bs).groups
    below-prepared-alike agrees bs h =
        ap (λ (c : Collected). all_prepared (with_variables plan vs) ty c.groups) (subfields-alike plan vs agrees ty nothing_collected bs)
        ∙ all-prepared-alike (collect_subfields plan ty nothing_collected bs).groups h

-- ---- what is done with rows

-- what a binding does with rows, where it loads
abbrev bound_below : ChildrenOf → Option BindingOf → Option BelowOf
bound_below children None = None
bound_below children (Some (by_column column)) = None
bound_below children (Some (by_one loader key)) = Some (record { next = First; children = children })
bound_below children (Some (by_many loader key)) = Some (record { next = Each; children = children })
bound_below children (Some (by_each loader name)) = Some (record { next = First; children = children })
bound_below children (Some (by_via loader key steps)) = Some (record { next = Joined steps; children = children })

abbrev defined_below : PlanOf → List ℕ → FieldOf → GroupOf → Option schema.Field → Option BelowOf
defined_below plan ty f g None = None
defined_below plan ty f g (Some d) = bound_below (children_of d.of_type f.place g.fields) (binding_in plan.bindings.fields ty f.name)

abbrev first_below : PlanOf → List ℕ → GroupOf → List FieldOf → Option BelowOf
first_below plan ty g [] = None
first_below plan ty g (f ∷ fs) = defined_below plan ty f g (field_in plan.definitions ty f.name)

-- what a group does with rows, where it loads: by its definition and its binding alone
abbrev group_below : PlanOf → List ℕ → GroupOf → Option BelowOf
group_below plan ty g = first_below plan ty g g.fields

nothing : (b : BelowOf) (o : Option BelowOf) → None ≡ Some b → o ≡ Some b
nothing b o h = absurd (cc h)

loader-below : (has : Bool) (asked : ValueFrom) (leaf_value : LeafValue) (b : BelowOf) → below_in (if has then asked else known leaf_value) ≡ Some b → below_in asked ≡ Some b
loader-below true asked leaf_value b h = h
loader-below false asked leaf_value b h = nothing b (below_in asked) h

key-below : (key : Option KeyFrom) (asked : KeyFrom → ValueFrom) (o : Option BelowOf) (b : BelowOf) → ((k : KeyFrom) → below_in (asked k) ≡ o) → below_in (with_key key asked) ≡ Some b → o ≡ Some b
key-below None asked o b all h = nothing b o h
key-below (Some k) asked o b all h = sym (all k) ∙ h

each-below : (loader : ℕ) (children : ChildrenOf) (given : Option Input) (b : BelowOf) → below_in (each_asked loader children given) ≡ Some b → bound_below children (Some (by_each loader [])) ≡ Some b
each-below loader children None b h = absurd (cc h)
each-below loader children (Some input.Null) b h = absurd (cc h)
each-below loader children (Some (input.Int z)) b h = absurd (cc h)
each-below loader children (Some (input.Text t)) b h = absurd (cc h)
each-below loader children (Some (input.Boolean x)) b h = absurd (cc h)
each-below loader children (Some (Items is)) b h = h

module _ (plan : PlanOf) where
  bound-asks : (t : TypeTree) (children : ChildrenOf) (values : List ValueOf) (found : Option BindingOf) (b : BelowOf)
      → below_in (bound_asked plan t children values found) ≡ Some b → bound_below children found ≡ Some b
  bound-asks t children values None b h = h
  bound-asks t children values (Some (by_column column)) b h = h
  bound-asks t children values (Some (by_one loader key)) b h =
      key-below (key_from values key) (λ k. first_row loader k children) (bound_below children (Some (by_one loader key))) b (λ k. refl)
      (loader-below (nat_lt loader (length plan.bindings.loaders)) (with_key (key_from values key) (λ k. first_row loader k children)) Null b h)
  bound-asks t children values (Some (by_many loader key)) b h =
      key-below (key_from values key) (λ k. all_rows loader k children) (bound_below children (Some (by_many loader key))) b (λ k. refl)
      (loader-below (nat_lt loader (length plan.bindings.loaders)) (with_key (key_from values key) (λ k. all_rows loader k children)) Null b h)
  bound-asks t children values (Some (by_each loader name)) b h =
      each-below loader children (input_named name values) b
      (loader-below (nat_lt loader (length plan.bindings.loaders)) (each_asked loader children (input_named name values)) Null b h)
  bound-asks t children values (Some (by_via loader key steps)) b h =
      let keyed : ValueFrom = with_key (key_from values key) (λ k. joined_rows loader k steps children) in
      key-below (key_from values key) (λ k. joined_rows loader k steps children) (bound_below children (Some (by_via loader key steps))) b (λ k. refl)
      (loader-below (have_loaders steps (length plan.bindings.loaders)) keyed Null b
      (loader-below (nat_lt loader (length plan.bindings.loaders)) (with_steps plan steps keyed) Null b h))

  arguments-ask : (t : TypeTree) (children : ChildrenOf) (given : ArgumentsOf) (found : Option BindingOf) (b : BelowOf)
      → below_in (with_arguments given (λ values. bound_asked plan t children values found)) ≡ Some b → bound_below children found ≡ Some b
  arguments-ask t children (null_argument name) found b h = nothing b (bound_below children found) h
  arguments-ask t children (all_values values) found b h = bound-asks t children values found b h

  module _ (ty : List ℕ) where
    defined-asks : (f : FieldOf) (g : GroupOf) (d : Option schema.Field) (b : BelowOf) → below_in (defined_asked plan ty f g d).asked ≡ Some b → defined_below plan ty f g d ≡ Some b
    defined-asks f g None b h = h
    defined-asks f g (Some d) b h =
        arguments-ask d.of_type (children_of d.of_type f.place g.fields) (arguments_of plan ty g) (binding_in plan.bindings.fields ty f.name) b h

    first-asks : (g : GroupOf) (fs : List FieldOf) (b : BelowOf) → below_in (first_asked plan ty g fs).asked ≡ Some b → first_below plan ty g fs ≡ Some b
    first-asks g [] b h = h
    first-asks g (f ∷ fs) b h = go (bytes_eq f.name (codes "__typename")) h (defined-asks f g (field_in plan.definitions ty f.name) b)
      where
        go : (own : Bool)
            → below_in (if own then record { position = position_of g.key f.place true; asked = known (leaf.Value (leaf.Text ty)) } else defined_asked plan ty f g (field_in plan.definitions ty f.name)).asked ≡ Some b
            → (below_in (defined_asked plan ty f g (field_in plan.definitions ty f.name)).asked ≡ Some b → defined_below plan ty f g (field_in plan.definitions ty f.name) ≡ Some b)
            → defined_below plan ty f g (field_in plan.definitions ty f.name) ≡ Some b
        go true is else_below = nothing b (defined_below plan ty f g (field_in plan.definitions ty f.name)) is
        go false is else_below = else_below is

-- what a group does with rows, where it loads, doesn't depend on variables
pub below-alike : (plan : PlanOf) (vs : List VariableOf) (ty : List ℕ) (g : GroupOf) (b b' : BelowOf)
    → below_in (prepared plan ty g).asked ≡ Some b → below_in (prepared (with_variables plan vs) ty g).asked ≡ Some b' → b' ≡ b
below-alike plan vs ty g b b' one other =
    let here : group_below plan ty g ≡ Some b = first-asks plan ty g g.fields b one in
    let there : group_below plan ty g ≡ Some b' = first-asks (with_variables plan vs) ty g g.fields b' other in
    let same : Some b' ≡ Some b = sym there ∙ here in
    cc same
