-- Where a group asks by a key that a variable gives, with another value it asks for the same by another key.
use Rattle.std.proofs.Common.{◌≡◌, ◌∙◌, ℕ, Bool, true, false, List, [], ◌∷◌, length, Option, Some, None, refl, sym, ap, bytes_eq, if◌then◌else◌}
use Rattle.std.specs.Prelude.{nat_lt, codes, option_and_then}
use Rattle.gq_parser.specs.Tree.{TypeTree, Value, Variable, Float, Enum, Array, Object, Argument}
use Rattle.gq_parser.specs.Tree as literal
use Rattle.schema_syntax.specs.Tree as schema
use Rattle.bindings_syntax.specs.Statements as source
use Rattle.gq_schema.specs.Types.{field_in, is_non_null}
use Rattle.gq_schema.specs.Inputs.{Input, Items}
use Rattle.gq_schema.specs.Inputs as input
use Rattle.gq_bindings.specs.Tree.{BindingOf, by_column, by_one, by_many, by_each, by_via, binding_in}
use Rattle.gq_variables.specs.Variables.{VariableOf, value_in}
use Rattle.load_memory.specs.Keys.{KeyOf, all, text}
use Rattle.execution.specs.Program.{Null, Value as leaf_value, Text}
use Rattle.gq_check.specs.Plans.{PlanOf}
use Rattle.plan_program.specs.Chosen.{given_to}
use Rattle.plan_program.specs.Groups.{FieldOf, GroupOf}
use Rattle.plan_program.specs.Arguments.{Coerced, absent, present, refused, ValueOf, all_values, and_then, argument_value, by_variable, variable_value, or_refused, coerced_arguments, field_arguments, first_arguments, arguments_of}
use Rattle.plan_program.specs.FieldValues.{KeyFrom, fixed, of_column, of_pair, part_from, ChildrenOf, ValueFrom, known, first_row, all_rows, joined_rows, input_named, key_of_input, key_if, key_from, have_loaders, with_steps, with_key, each_asked, bound_asked, children_of, with_arguments, defined_asked, first_asked, prepared, position_of}
use Rattle.plan_program.specs.OtherVariables.{with_variables}
use Rattle.plan_program.specs.RowUses.{LoadOf, load_in}
use Rattle.plan_program.specs.VariableKeys.{variable_in, only_variable, defined_variable, first_variable, key_of_variable, key_by_variable}

abbrev pub load_by : ℕ → KeyFrom → LoadOf
load_by loader key = record { loader = loader; key = key }

-- the load of one key by this loader
abbrev pub loaded : ℕ → KeyFrom → Option LoadOf
loaded loader key = Some (load_by loader key)

pub same-load : (own loader : ℕ) (one other : KeyFrom) → loaded own one ≡ loaded loader other → load_by own one ≡ load_by loader other
same-load own loader one other e = cc e

same-loader : (own loader : ℕ) (one other : KeyFrom) → loaded own one ≡ loaded loader other → own ≡ loader
same-loader own loader one other e = ap (λ (l : LoadOf). l.loader) (same-load own loader one other e)

same-key : (own loader : ℕ) (one other : KeyFrom) → loaded own one ≡ loaded loader other → one ≡ other
same-key own loader one other e = ap (λ (l : LoadOf). l.key) (same-load own loader one other e)

-- ---- keys

-- all values have this name
abbrev AreOf : List ℕ → List ValueOf → Type 0
AreOf name values = (n : List ℕ) (i : Input) → input_named n values ≡ Some i → bytes_eq n name ≡ true

none-of : (name : List ℕ) → AreOf name []
none-of name n i e = absurd (cc e)

one-of : (name : List ℕ) (i : Input) → AreOf name (record { name = name; value = i } ∷ [])
one-of name i n j e = go (bytes_eq n name) e
  where
    go : (b : Bool) → (if b then Some i else None) ≡ Some j → b ≡ true
    go true h = refl
    go false h = absurd (cc h)

module _ (loader : ℕ) (t : List ℕ) (i : Input) (k : KeyOf) (is : key_of_input i ≡ Some k) where
  -- a load by a key that comes from values of this name; with another value of the name
  key-again : (name : List ℕ) (values : List ValueOf) (own : ℕ) (asked : KeyFrom → ValueFrom) (key : source.KeyOf) → AreOf name values → ((k : KeyFrom) → load_in (asked k) ≡ loaded own k)
      → load_in (with_key (key_from values key) asked) ≡ loaded loader (fixed (text t))
      → load_in (with_key (key_from (record { name = name; value = i } ∷ []) key) asked) ≡ loaded loader (fixed k)
  key-again name values own asked (source.from_argument n) only loads h = go (input_named n values) (only n) h
    where
      keyed : (o : Option KeyFrom) → load_in (with_key o asked) ≡ loaded loader (fixed (text t)) → own ≡ loader
      keyed None e = absurd (cc e)
      keyed (Some key) e = same-loader own loader key (fixed (text t)) (sym (loads key) ∙ e)

      go : (o : Option Input) → ((j : Input) → o ≡ Some j → bytes_eq n name ≡ true) → load_in (with_key (key_if o) asked) ≡ loaded loader (fixed (text t))
          → load_in (with_key (key_if (if bytes_eq n name then Some i else None)) asked) ≡ loaded loader (fixed k)
      go None named e = absurd (cc e)
      go (Some j) named e = rw (named j refl, is) (loads (fixed k) ∙ ap (λ (l : ℕ). loaded l (fixed k)) (keyed (key_if (Some j)) e))
  key-again name values own asked (source.from_column column) only loads h =
      absurd (cc (same-key own loader (of_column column) (fixed (text t)) (sym (loads (of_column column)) ∙ h)))
  key-again name values own asked source.from_all only loads h =
      absurd (cc (same-key own loader (fixed all) (fixed (text t)) (sym (loads (fixed all)) ∙ h)))
  key-again name values own asked (source.from_pair one two) only loads h =
      absurd (cc (same-key own loader (of_pair (part_from values one) (part_from values two)) (fixed (text t)) (sym (loads (of_pair (part_from values one) (part_from values two))) ∙ h)))

  -- the same, if there is such a loader
  loader-again : (has : Bool) (asked again : ValueFrom) → (load_in asked ≡ loaded loader (fixed (text t)) → load_in again ≡ loaded loader (fixed k))
      → load_in (if has then asked else known Null) ≡ loaded loader (fixed (text t)) → load_in (if has then again else known Null) ≡ loaded loader (fixed k)
  loader-again true asked again so h = so h
  loader-again false asked again so h = absurd (cc h)

  each-none : (own : ℕ) (children : ChildrenOf) (o : Option Input) → load_in (each_asked own children o) ≡ None
  each-none own children None = refl
  each-none own children (Some input.Null) = refl
  each-none own children (Some (input.Int z)) = refl
  each-none own children (Some (input.Text u)) = refl
  each-none own children (Some (input.Boolean b)) = refl
  each-none own children (Some (Items is')) = refl

  module _ (plan : PlanOf) (vs : List VariableOf) (type : TypeTree) (children : ChildrenOf) (name : List ℕ) where
    bound-again : (values : List ValueOf) (found : Option BindingOf) → AreOf name values
        → load_in (bound_asked plan type children values found) ≡ loaded loader (fixed (text t))
        → load_in (bound_asked (with_variables plan vs) type children (record { name = name; value = i } ∷ []) found) ≡ loaded loader (fixed k)
    bound-again values None only h = absurd (cc h)
    bound-again values (Some (by_column column)) only h = absurd (cc h)
    bound-again values (Some (by_one own key)) only h =
        let asked : KeyFrom → ValueFrom = λ k. first_row own k children in
        loader-again (nat_lt own (length plan.bindings.loaders)) (with_key (key_from values key) asked) (with_key (key_from (record { name = name; value = i } ∷ []) key) asked)
        (key-again name values own asked key only (λ k. refl)) h
    bound-again values (Some (by_many own key)) only h =
        let asked : KeyFrom → ValueFrom = λ k. all_rows own k children in
        loader-again (nat_lt own (length plan.bindings.loaders)) (with_key (key_from values key) asked) (with_key (key_from (record { name = name; value = i } ∷ []) key) asked)
        (key-again name values own asked key only (λ k. refl)) h
    bound-again values (Some (by_each own n)) only h =
        loader-again (nat_lt own (length plan.bindings.loaders)) (each_asked own children (input_named n values)) (each_asked own children (input_named n (record { name = name; value = i } ∷ [])))
        (λ e. absurd (cc (sym (each-none own children (input_named n values)) ∙ e))) h
    bound-again values (Some (by_via own key steps)) only h =
        let asked : KeyFrom → ValueFrom = λ k. joined_rows own k steps children in
        let keyed : List ValueOf → ValueFrom = λ values. with_key (key_from values key) asked in
        let again : List ValueOf = record { name = name; value = i } ∷ [] in
        loader-again (nat_lt own (length plan.bindings.loaders)) (with_steps plan steps (keyed values)) (with_steps plan steps (keyed again))
        (loader-again (have_loaders steps (length plan.bindings.loaders)) (keyed values) (keyed again) (key-again name values own asked key only (λ k. refl))) h

    coerced-again : (c : Coerced) (found : Option BindingOf)
        → load_in (with_arguments (and_then name c (all_values [])) (λ values. bound_asked plan type children values found)) ≡ loaded loader (fixed (text t))
        → load_in (with_arguments (and_then name (present i) (all_values [])) (λ values. bound_asked (with_variables plan vs) type children values found)) ≡ loaded loader (fixed k)
    coerced-again absent found h = bound-again [] found (none-of name) h
    coerced-again (present j) found h = bound-again (record { name = name; value = j } ∷ []) found (one-of name j) h
    coerced-again refused found h = absurd (cc h)

-- ---- arguments

-- a value that is a key is the value of an argument
given-key : (non_null : Bool) (i : Input) (k : KeyOf) → key_of_input i ≡ Some k → or_refused (variable_value non_null (Some i)) ≡ present i
given-key non_null input.Null k e = absurd (cc e)
given-key non_null (input.Int z) k e = refl
given-key non_null (input.Text t) k e = refl
given-key non_null (input.Boolean b) k e = absurd (cc e)
given-key non_null (Items is) k e = absurd (cc e)

module _ (plan : PlanOf) (vs : List VariableOf) (loader : ℕ) (t : List ℕ) (k : KeyOf) where
  -- with a value that is given by a variable
  by-variable : (type : TypeTree) (children : ChildrenOf) (a : schema.Argument) (c : Coerced) (o : Option Input) (found : Option BindingOf) → option_and_then key_of_input o ≡ Some k
      → load_in (with_arguments (and_then a.name.text c (all_values [])) (λ values. bound_asked plan type children values found)) ≡ loaded loader (fixed (text t))
      → load_in (with_arguments (and_then a.name.text (by_variable (with_variables plan vs) a o) (all_values [])) (λ values. bound_asked (with_variables plan vs) type children values found)) ≡ loaded loader (fixed k)
  by-variable type children a c None found e h = absurd (cc e)
  by-variable type children a c (Some i) found e h =
      rw (given-key (is_non_null a.of_type) i k e) (coerced-again loader t i k e plan vs type children a.name.text c found h)

  -- with what is given for the only argument
  given-again : (type : TypeTree) (children : ChildrenOf) (a : schema.Argument) (o : Option Value) (found : Option BindingOf) → option_and_then (key_of_variable (with_variables plan vs)) (option_and_then variable_in o) ≡ Some k
      → load_in (with_arguments (and_then a.name.text (argument_value plan a o) (all_values [])) (λ values. bound_asked plan type children values found)) ≡ loaded loader (fixed (text t))
      → load_in (with_arguments (and_then a.name.text (argument_value (with_variables plan vs) a o) (all_values [])) (λ values. bound_asked (with_variables plan vs) type children values found)) ≡ loaded loader (fixed k)
  given-again type children a None found e h = absurd (cc e)
  given-again type children a (Some (Variable p name)) found e h = by-variable type children a (argument_value plan a (Some (Variable p name))) (value_in vs name) found e h
  given-again type children a (Some (literal.Int p u)) found e h = absurd (cc e)
  given-again type children a (Some (Float p u)) found e h = absurd (cc e)
  given-again type children a (Some (literal.Text p u)) found e h = absurd (cc e)
  given-again type children a (Some (literal.Boolean p b)) found e h = absurd (cc e)
  given-again type children a (Some (literal.Null p)) found e h = absurd (cc e)
  given-again type children a (Some (Enum p u)) found e h = absurd (cc e)
  given-again type children a (Some (Array p ws)) found e h = absurd (cc e)
  given-again type children a (Some (Object p ms)) found e h = absurd (cc e)

  arguments-again : (type : TypeTree) (children : ChildrenOf) (given : List Argument) (as' : List schema.Argument) (found : Option BindingOf) → option_and_then (key_of_variable (with_variables plan vs)) (only_variable given as') ≡ Some k
      → load_in (with_arguments (coerced_arguments plan given as') (λ values. bound_asked plan type children values found)) ≡ loaded loader (fixed (text t))
      → load_in (with_arguments (coerced_arguments (with_variables plan vs) given as') (λ values. bound_asked (with_variables plan vs) type children values found)) ≡ loaded loader (fixed k)
  arguments-again type children given [] found e h = absurd (cc e)
  arguments-again type children given (a ∷ []) found e h = given-again type children a (given_to given a.name.text) found e h
  arguments-again type children given (a ∷ b ∷ as') found e h = absurd (cc e)

  -- ---- groups

  module _ (ty : List ℕ) where
    defined-again : (f : FieldOf) (g : GroupOf) (d : Option schema.Field) → arguments_of plan ty g ≡ field_arguments plan f.arguments d → arguments_of (with_variables plan vs) ty g ≡ field_arguments (with_variables plan vs) f.arguments d
        → option_and_then (key_of_variable (with_variables plan vs)) (defined_variable f d) ≡ Some k
        → load_in (defined_asked plan ty f g d).asked ≡ loaded loader (fixed (text t)) → load_in (defined_asked (with_variables plan vs) ty f g d).asked ≡ loaded loader (fixed k)
    defined-again f g None was is e h = absurd (cc e)
    defined-again f g (Some d) was is e h =
        rw is (arguments-again d.of_type (children_of d.of_type f.place g.fields) f.arguments d.arguments (binding_in plan.bindings.fields ty f.name) e (rw was at h))

    first-again : (g : GroupOf) (fs : List FieldOf) → g.fields ≡ fs → option_and_then (key_of_variable (with_variables plan vs)) (first_variable plan ty fs) ≡ Some k
        → load_in (first_asked plan ty g fs).asked ≡ loaded loader (fixed (text t)) → load_in (first_asked (with_variables plan vs) ty g fs).asked ≡ loaded loader (fixed k)
    first-again g [] same e h = absurd (cc e)
    first-again g (f ∷ fs) same e h = go (bytes_eq f.name (codes "__typename")) h
      where
        go : (own : Bool)
            → load_in (if own then record { position = position_of g.key f.place true; asked = known (leaf_value (Text ty)) } else defined_asked plan ty f g (field_in plan.definitions ty f.name)).asked ≡ loaded loader (fixed (text t))
            → load_in (if own then record { position = position_of g.key f.place true; asked = known (leaf_value (Text ty)) } else defined_asked (with_variables plan vs) ty f g (field_in plan.definitions ty f.name)).asked ≡ loaded loader (fixed k)
        go true is = absurd (cc is)
        go false is =
            defined-again f g (field_in plan.definitions ty f.name) (ap (first_arguments plan ty) same) (ap (first_arguments (with_variables plan vs) ty) same) e is

    -- where a group loads by the key of a text, with other variables it loads by the key that one gives
    pub keyed-again : (g : GroupOf) → key_by_variable (with_variables plan vs) ty g ≡ Some k → load_in (prepared plan ty g).asked ≡ loaded loader (fixed (text t))
        → load_in (prepared (with_variables plan vs) ty g).asked ≡ loaded loader (fixed k)
    keyed-again g e h = first-again g g.fields refl e h

-- where a group stands doesn't depend on variables
pub position-alike : (plan : PlanOf) (vs : List VariableOf) (ty : List ℕ) (g : GroupOf) → (prepared (with_variables plan vs) ty g).position ≡ (prepared plan ty g).position
position-alike plan vs ty g = first g.fields
  where
    go : (f : FieldOf) (own : Bool) (d : Option schema.Field)
        → (if own then record { position = position_of g.key f.place true; asked = known (leaf_value (Text ty)) } else defined_asked (with_variables plan vs) ty f g d).position
        ≡ (if own then record { position = position_of g.key f.place true; asked = known (leaf_value (Text ty)) } else defined_asked plan ty f g d).position
    go f true d = refl
    go f false None = refl
    go f false (Some d) = refl

    first : (fs : List FieldOf) → (first_asked (with_variables plan vs) ty g fs).position ≡ (first_asked plan ty g fs).position
    first [] = refl
    first (f ∷ fs) = go f (bytes_eq f.name (codes "__typename")) (field_in plan.definitions ty f.name)
