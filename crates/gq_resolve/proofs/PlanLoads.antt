-- The loads of a plan's program are of loaders that its bindings define.
use Rattle.std.proofs.Common.{◌≡◌, ◌<◌, ℕ, zero, suc, Bool, true, false, List, [], ◌∷◌, map, length, Option, Some, None, refl, inl, inr, ◌⊎◌}
use Rattle.std.proofs.lemmas.Bool.{ltb-true, and_parts}
use Rattle.std.specs.Prelude.{nat_lt, if◌then◌else◌, bytes_eq, codes}
use Rattle.text_place.specs.declared.place.Place.{Place}
use Rattle.gq_parser.specs.Tree.{TypeTree, Below}
use Rattle.schema_syntax.specs.Tree.{Definition, Field}
use Rattle.gq_bindings.specs.Tree.{StepOf, BindingOf, by_column, by_one, by_many, by_each, by_via, binding_in}
use Rattle.gq_schema.specs.Inputs.{Input}
use Rattle.gq_schema.specs.Inputs as input
use Rattle.gq_schema.specs.Types.{field_in, root_in}
use Rattle.load_memory.specs.Keys.{KeyOf, text, pair}
use Rattle.load_memory.specs.Rows.{RowOf, cell_of}
use Rattle.load_memory.specs.Outcomes.{OutcomeOf, known, batch_fault, rows, key_fault}
use Rattle.execution.specs.Loads.{Load, Reader, IsOneOf}
use Rattle.execution.specs.Program.{LeafValue, Null, Value, Text, Program, Is, Read, Programs, End, With, FieldPosition, Item, given, needs, all_needs}
use Rattle.execution.specs.Rounds.{HasLoaders}
use Rattle.execution.proofs.Same.{one-either}
use Rattle.gq_check.specs.Plans.{PlanOf}
use Rattle.plan_program.specs.Groups.{FieldOf, GroupOf, selections_in, nothing_collected, collect, collect_subfields}
use Rattle.plan_program.specs.Arguments.{ArgumentsOf, ValueOf, all_values, null_argument, arguments_of}
use Rattle.plan_program.specs.FieldValues.{KeyFrom, fixed, of_column, of_pair, ChildrenOf, ValueFrom, known as settled, cell, first_row, all_rows, each_row, joined_rows, PreparedOf, with_loader, have_loaders, with_steps, with_key, key_from, each_asked, input_named, bound_asked, children_of, with_arguments, defined_asked, field_asked, first_asked, position_of, all_prepared}
use Rattle.plan_program.specs.PlanPrograms.{TypeOf, object_type, type_fault, type_of_row, places, list_of, fields_of, Objects, typed_object, row_object, with_rows, read_key, read_cell, PartOver, known_part, lacking, part_over, read_pair, read_from, read_if, first_of, first_object, all_objects, joined_object, joined_objects, asked_program, object_program, most_levels, root_prepared, plan_program}

module _ (n : ℕ) where
  abbrev AreWithin : Programs → Type 0
  AreWithin ps = (R : Reader) (l : Load) → IsOneOf l (all_needs ps R) → l.loader < n

  within-is : (leaf_value : LeafValue) → HasLoaders n (Is leaf_value)
  within-is leaf_value R l h = absurd h

  within-read : (load : Load) (next : OutcomeOf → Program) → load.loader < n → ((o : OutcomeOf) → HasLoaders n (next o)) → HasLoaders n (Read load next)
  within-read load next lt h R l (inl e) = rw e lt
  within-read load next lt h R l (inr i) = go (R load) i where
    go : (o : Option OutcomeOf) → IsOneOf l (given o [] (λ x. needs (next x) R)) → l.loader < n
    go None k = absurd k
    go (Some x) k = h x R l k

  within-end : AreWithin End
  within-end R l h = absurd h

  within-with : (position : FieldPosition) (p : Program) (ps : Programs) → HasLoaders n p → AreWithin ps → AreWithin (With position p ps)
  within-with position p ps h k R l i = go (one-either l (needs p R) (all_needs ps R) i) where
    go : IsOneOf l (needs p R) ⊎ IsOneOf l (all_needs ps R) → l.loader < n
    go (inl a) = h R l a
    go (inr b) = k R l b

  -- loads
  within-rows : (next : List RowOf → Program) → ((rs : List RowOf) → HasLoaders n (next rs)) → (o : OutcomeOf) → HasLoaders n (with_rows next o)
  within-rows next h (known (rows rs)) = h rs
  within-rows next h (known (key_fault fault)) = λ R l h. absurd h
  within-rows next h (batch_fault fault) = λ R l h. absurd h

  within-key : (loader : ℕ) (key : KeyOf) (next : List RowOf → Program) → loader < n → ((rs : List RowOf) → HasLoaders n (next rs)) → HasLoaders n (read_key loader key next)
  within-key loader key next lt h = within-read (record { loader = loader; key = key }) (with_rows next) lt (within-rows next h)

  within-cell : (loader : ℕ) (column : List ℕ) (c : Option (List ℕ)) (next : List RowOf → Program) → loader < n → ((rs : List RowOf) → HasLoaders n (next rs)) → HasLoaders n (read_cell loader column c next)
  within-cell loader column None next lt h = λ R l h. absurd h
  within-cell loader column (Some []) next lt h = λ R l h. absurd h
  within-cell loader column (Some (c ∷ cs)) next lt h = within-key loader (text (c ∷ cs)) next lt h

  within-pair : (loader : ℕ) (one two : PartOver) (next : List RowOf → Program) → loader < n → ((rs : List RowOf) → HasLoaders n (next rs)) → HasLoaders n (read_pair loader one two next)
  within-pair loader (lacking column) two next lt h = λ R l h. absurd h
  within-pair loader (known_part one) (lacking column) next lt h = λ R l h. absurd h
  within-pair loader (known_part None) (known_part two) next lt h = λ R l h. absurd h
  within-pair loader (known_part (Some s)) (known_part None) next lt h = λ R l h. absurd h
  within-pair loader (known_part (Some s)) (known_part (Some t)) next lt h = within-key loader (pair s t) next lt h

  within-from : (loader : ℕ) (from : KeyFrom) (row : RowOf) (next : List RowOf → Program) → loader < n → ((rs : List RowOf) → HasLoaders n (next rs)) → HasLoaders n (read_from loader from row next)
  within-from loader (fixed key) row next lt h = within-key loader key next lt h
  within-from loader (of_column column) row next lt h = within-cell loader column (cell_of row column) next lt h
  within-from loader (of_pair one two) row next lt h = within-pair loader (part_over one row) (part_over two row) next lt h

  within-if : (loader : ℕ) (next : List RowOf → Program) → loader < n → ((rs : List RowOf) → HasLoaders n (next rs)) → (key : Option KeyOf) → HasLoaders n (read_if loader next key)
  within-if loader next lt h None = λ R l h. absurd h
  within-if loader next lt h (Some key) = within-key loader key next lt h

  -- lists
  within-places : {A : Type 0} (non_null : Bool) (place : Place) (i : ℕ) (f : A → Program) (xs : List A) → ((x : A) → HasLoaders n (f x)) → AreWithin (places non_null place i (map f xs))
  within-places non_null place i f [] h = within-end
  within-places non_null place i f (x ∷ xs) h = within-with (record { part = Item i; non_null = non_null; place = place }) (f x) (places non_null place (suc i) (map f xs)) (h x) (within-places non_null place (suc i) f xs h)

  within-list : {A : Type 0} (below : ChildrenOf) (f : A → Program) (xs : List A) → ((x : A) → HasLoaders n (f x)) → HasLoaders n (list_of below (map f xs))
  within-list below f xs h = within-places below.item_non_null below.place 0 f xs h

  abbrev StepsWithin : List StepOf → Type 0
  StepsWithin [] = Unit {0}
  StepsWithin (s ∷ ss) = (s.loader < n) × StepsWithin ss

  first-within : (object : RowOf → Program) → ((row : RowOf) → HasLoaders n (object row)) → (rs : List RowOf) → HasLoaders n (first_of object rs)
  first-within object h [] = λ R l h. absurd h
  first-within object h (r ∷ rs) = h r

  -- says what is asked, of loaders that are there
  abbrev IsAskedWithin : ValueFrom → Type 0
  IsAskedWithin (settled leaf_value) = Unit {0}
  IsAskedWithin (cell column t) = Unit {0}
  IsAskedWithin (first_row loader key below) = loader < n
  IsAskedWithin (all_rows loader key below) = loader < n
  IsAskedWithin (each_row loader keys below) = loader < n
  IsAskedWithin (joined_rows loader key steps below) = (loader < n) × StepsWithin steps

  abbrev AreAskedWithin : List PreparedOf → Type 0
  AreAskedWithin [] = Unit {0}
  AreAskedWithin (p ∷ ps) = IsAskedWithin p.asked × AreAskedWithin ps

  module _ (defs : List Definition) (objects : Objects) (h : (ty : List ℕ) (below : List Below) (row : RowOf) → HasLoaders n (objects ty below row)) where
    within-typed : (below : ChildrenOf) (row : RowOf) (t : TypeOf) → HasLoaders n (typed_object objects below row t)
    within-typed below row (type_fault fault) = λ R l h. absurd h
    within-typed below row (object_type ty) = h ty below.below row

    within-row : (below : ChildrenOf) (row : RowOf) → HasLoaders n (row_object defs objects below row)
    within-row below row = within-typed below row (type_of_row defs below.type_name row)

    within-first : (below : ChildrenOf) (rs : List RowOf) → HasLoaders n (first_object defs objects below rs)
    within-first below [] = λ R l h. absurd h
    within-first below (r ∷ rs) = within-row below r

    within-joined : (below : ChildrenOf) (steps : List StepOf) → StepsWithin steps → (row : RowOf) → HasLoaders n (joined_object defs objects below steps row)
    within-joined below [] k row = within-row below row
    within-joined below (s ∷ ss) k row = within-from s.loader (of_column s.column) row (first_of (joined_object defs objects below ss)) k.0 (first-within (joined_object defs objects below ss) (within-joined below ss k.1))

    within-asked : (row : RowOf) (a : ValueFrom) → IsAskedWithin a → HasLoaders n (asked_program defs objects row a)
    within-asked row (settled leaf_value) lt = within-is leaf_value
    within-asked row (cell column t) lt = λ R l h. absurd h
    within-asked row (first_row loader key below) lt = within-from loader key row (first_object defs objects below) lt (within-first below)
    within-asked row (all_rows loader key below) lt = within-from loader key row (all_objects defs objects below) lt (λ rs. within-list below (row_object defs objects below) rs (within-row below))
    within-asked row (each_row loader keys below) lt = within-list below (read_if loader (first_object defs objects below)) keys (within-if loader (first_object defs objects below) lt (within-first below))
    within-asked row (joined_rows loader key steps below) lt = within-from loader key row (joined_objects defs objects below steps) lt.0 (λ rs. within-list below (joined_object defs objects below steps) rs (within-joined below steps lt.1))

    within-fields : (row : RowOf) (ps : List PreparedOf) → AreAskedWithin ps → AreWithin (fields_of (asked_program defs objects row) ps)
    within-fields row [] k = within-end
    within-fields row (p ∷ ps) k = within-with p.position (asked_program defs objects row p.asked) (fields_of (asked_program defs objects row) ps) (within-asked row p.asked k.0) (within-fields row ps k.1)

abbrev typename_asked : List ℕ → FieldOf → GroupOf → PreparedOf
typename_asked ty f g = record { position = position_of g.key f.place true; asked = settled (Value (Text ty)) }

-- gives what a plan's groups ask
module _ (plan : PlanOf) where
  asked-loader : (loader : ℕ) (a : ValueFrom) → (loader < length plan.bindings.loaders → IsAskedWithin (length plan.bindings.loaders) a) → IsAskedWithin (length plan.bindings.loaders) (with_loader plan loader a)
  asked-loader loader a h = go (nat_lt loader (length plan.bindings.loaders)) refl where
    go : (b : Bool) → nat_lt loader (length plan.bindings.loaders) ≡ b → IsAskedWithin (length plan.bindings.loaders) (if b then a else settled Null)
    go true e = h (ltb-true loader (length plan.bindings.loaders) e)
    go false e = tt

  steps-within : (m : ℕ) (steps : List StepOf) → have_loaders steps m ≡ true → StepsWithin m steps
  steps-within m [] e = tt
  steps-within m (s ∷ ss) e = let parts = and_parts (nat_lt s.loader m) (have_loaders ss m) e in (ltb-true s.loader m parts.0, steps-within m ss parts.1)

  asked-steps : (steps : List StepOf) (a : ValueFrom) → (StepsWithin (length plan.bindings.loaders) steps → IsAskedWithin (length plan.bindings.loaders) a) → IsAskedWithin (length plan.bindings.loaders) (with_steps plan steps a)
  asked-steps steps a h = go (have_loaders steps (length plan.bindings.loaders)) refl where
    go : (b : Bool) → have_loaders steps (length plan.bindings.loaders) ≡ b → IsAskedWithin (length plan.bindings.loaders) (if b then a else settled Null)
    go true e = h (steps-within (length plan.bindings.loaders) steps e)
    go false e = tt

  asked-key : (key : Option KeyFrom) (f : KeyFrom → ValueFrom) → ((k : KeyFrom) → IsAskedWithin (length plan.bindings.loaders) (f k)) → IsAskedWithin (length plan.bindings.loaders) (with_key key f)
  asked-key None f h = tt
  asked-key (Some k) f h = h k

  asked-each : (loader : ℕ) (below : ChildrenOf) (i : Option Input) → loader < length plan.bindings.loaders → IsAskedWithin (length plan.bindings.loaders) (each_asked loader below i)
  asked-each loader below None lt = tt
  asked-each loader below (Some (input.Items is)) lt = lt
  asked-each loader below (Some input.Null) lt = tt
  asked-each loader below (Some (input.Int z)) lt = tt
  asked-each loader below (Some (input.Text t)) lt = tt
  asked-each loader below (Some (input.Boolean b)) lt = tt

  asked-bound : (t : TypeTree) (below : ChildrenOf) (values : List ValueOf) (b : Option BindingOf) → IsAskedWithin (length plan.bindings.loaders) (bound_asked plan t below values b)
  asked-bound t below values None = tt
  asked-bound t below values (Some (by_column column)) = tt
  asked-bound t below values (Some (by_one loader key)) = asked-loader loader (with_key (key_from values key) (λ k. first_row loader k below)) (λ lt. asked-key (key_from values key) (λ k. first_row loader k below) (λ k. lt))
  asked-bound t below values (Some (by_many loader key)) = asked-loader loader (with_key (key_from values key) (λ k. all_rows loader k below)) (λ lt. asked-key (key_from values key) (λ k. all_rows loader k below) (λ k. lt))
  asked-bound t below values (Some (by_each loader name)) = asked-loader loader (each_asked loader below (input_named name values)) (λ lt. asked-each loader below (input_named name values) lt)
  asked-bound t below values (Some (by_via loader key steps)) = asked-loader loader (with_steps plan steps (with_key (key_from values key) (λ k. joined_rows loader k steps below))) (λ one. asked-steps steps (with_key (key_from values key) (λ k. joined_rows loader k steps below)) (λ others. asked-key (key_from values key) (λ k. joined_rows loader k steps below) (λ k. (one, others))))

  asked-with : (args : ArgumentsOf) (f : List ValueOf → ValueFrom) → ((values : List ValueOf) → IsAskedWithin (length plan.bindings.loaders) (f values)) → IsAskedWithin (length plan.bindings.loaders) (with_arguments args f)
  asked-with (null_argument name) f h = tt
  asked-with (all_values values) f h = h values

  asked-defined : (ty : List ℕ) (f : FieldOf) (g : GroupOf) (d : Option Field) → IsAskedWithin (length plan.bindings.loaders) (defined_asked plan ty f g d).asked
  asked-defined ty f g None = tt
  asked-defined ty f g (Some d) = asked-with (arguments_of plan ty g) (λ values. bound_asked plan d.of_type (children_of d.of_type f.place g.fields) values (binding_in plan.bindings.fields ty f.name)) (λ values. asked-bound d.of_type (children_of d.of_type f.place g.fields) values (binding_in plan.bindings.fields ty f.name))

  asked-field : (ty : List ℕ) (f : FieldOf) (g : GroupOf) → IsAskedWithin (length plan.bindings.loaders) (field_asked plan ty f g).asked
  asked-field ty f g = go (bytes_eq f.name (codes "__typename")) where
    go : (b : Bool) → IsAskedWithin (length plan.bindings.loaders) (if b then typename_asked ty f g else defined_asked plan ty f g (field_in plan.definitions ty f.name)).asked
    go true = tt
    go false = asked-defined ty f g (field_in plan.definitions ty f.name)

  asked-first : (ty : List ℕ) (g : GroupOf) (fs : List FieldOf) → IsAskedWithin (length plan.bindings.loaders) (first_asked plan ty g fs).asked
  asked-first ty g [] = tt
  asked-first ty g (f ∷ fs) = asked-field ty f g

  asked-all : (ty : List ℕ) (gs : List GroupOf) → AreAskedWithin (length plan.bindings.loaders) (all_prepared plan ty gs)
  asked-all ty [] = tt
  asked-all ty (g ∷ gs) = (asked-first ty g g.fields, asked-all ty gs)

  within-object : (levels : ℕ) (ty : List ℕ) (below : List Below) (row : RowOf) → HasLoaders (length plan.bindings.loaders) (object_program plan levels ty below row)
  within-object zero ty below row = λ R l h. absurd h
  within-object (suc levels) ty below row = within-fields (length plan.bindings.loaders) plan.definitions (object_program plan levels) (within-object levels) row (all_prepared plan ty (collect_subfields plan ty nothing_collected below).groups) (asked-all ty (collect_subfields plan ty nothing_collected below).groups)

  -- a plan's program asks no loader but those that its bindings define
  pub plan-loads : HasLoaders (length plan.bindings.loaders) (plan_program plan)
  plan-loads = within-fields (length plan.bindings.loaders) plan.definitions (object_program plan most_levels) (within-object most_levels) [] (root_prepared plan) (asked-all (root_in plan.definitions) (collect plan (root_in plan.definitions) (selections_in plan.operation.selection_set)))
