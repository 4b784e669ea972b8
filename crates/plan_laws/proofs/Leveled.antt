-- More levels than a plan has change nothing: what is collected of an object has one level less than what it is collected from.
use Rattle.std.proofs.Common.{◌≡◌, ◌∙◌, sym, ap, refl, ℕ, zero, suc, ◌<◌, ◌≤◌, Bool, true, false, List, [], ◌∷◌, ◌++◌, map, length, Option, Some, None, arith, if◌then◌else◌}
use Rattle.std.specs.Prelude.{◌||◌, not, nat_lt, bytes_eq, codes}
use Rattle.std.proofs.Math.Path.{fun_ext}
use Rattle.std.proofs.lemmas.Bool.{cond_both}
use Rattle.gq_parser.specs.Tree.{TypeTree, Selection, Field, Spread, Inline, Below, nothing_below, below, SelectionSet, set_at, Selections, no_selection, and_selection, Fragment}
use Rattle.schema_syntax.specs.Tree.{Definition, Field as DefinedField}
use Rattle.gq_schema.specs.Inputs.{Input, Items}
use Rattle.gq_schema.specs.Types.{field_in, root_in}
use Rattle.gq_bindings.specs.Tree.{StepOf, BindingOf, by_one, by_many, by_each, by_via, binding_in}
use Rattle.load_memory.specs.Rows.{RowOf}
use Rattle.execution.specs.Program.{Null, Program, Programs, Under, With, ObjectOf}
use Rattle.gq_check.specs.Plans.{PlanOf, fragment_in}
use Rattle.rules_spreads.specs.Levels.{levels_in, levels_among, levels_from, levels_below}
use Rattle.plan_program.specs.Chosen.{is_left_out, applies}
use Rattle.plan_program.specs.Groups.{FieldOf, GroupOf, Collected, Entering, nothing_collected, with_field, chosen_field, has_entered, collect_one, collect_set, collect_all, enter_fragment, entering, collect_from, collect, collect_subfields, selections_in, selections_below}
use Rattle.plan_program.specs.Arguments.{ArgumentsOf, ValueOf, all_values, null_argument, arguments_of}
use Rattle.plan_program.specs.FieldValues.{KeyFrom, of_column, ChildrenOf, ValueFrom, known as settled, first_row, all_rows, each_row, joined_rows, PreparedOf, key_from, have_loaders, with_steps, with_key, each_asked, input_named, bound_asked, sets_below, children_of, with_arguments, defined_asked, first_asked, prepared, all_prepared}
use Rattle.plan_program.specs.PlanPrograms.{TypeOf, object_type, type_fault, type_of_row, list_of, fields_of, Objects, typed_object, row_object, read_from, read_if, first_of, first_object, all_objects, joined_object, joined_objects, asked_program, prepared_program, object_program, most_levels, plan_program}
use Rattle.plan_laws.specs.Levels.{program_with}
use Rattle.plan_laws.proofs.Options.{by_option}

-- The number of a fragment's name is at least that of the fields on any path down from the fragment, where the fragments
-- that it spreads have theirs.
abbrev pub AreLevels : List Fragment → (List ℕ → ℕ) → Type 0
AreLevels fragments spread = (name : List ℕ) (f : Fragment) → fragment_in fragments name ≡ Some f → levels_in spread f.selection_set ≤ spread name

-- says where there is a field
abbrev IfAny : List FieldOf → Type 0 → Type 0
IfAny [] P = Unit {0}
IfAny (f ∷ fs) P = P

-- says what holds of what is selected below what is asked
abbrev OverFields : (List Below → Type 0) → ValueFrom → Type 0
OverFields P (first_row loader key b) = P b.below
OverFields P (all_rows loader key b) = P b.below
OverFields P (each_row loader keys b) = P b.below
OverFields P (joined_rows loader key steps b) = P b.below
OverFields P asked = Unit {0}

-- ---- what a group asks has what the group's fields select below it

module _ (plan : PlanOf) (P : List Below → Type 0) where
  -- an answer that is null by itself asks for nothing
  over-if : (b : Bool) (asked : ValueFrom) → OverFields P asked → OverFields P (if b then asked else settled Null)
  over-if true asked h = h
  over-if false asked h = tt

  key-over : (key : Option KeyFrom) (asked : KeyFrom → ValueFrom) → ((k : KeyFrom) → OverFields P (asked k)) → OverFields P (with_key key asked)
  key-over None asked h = tt
  key-over (Some k) asked h = h k

  each-over : (loader : ℕ) (b : ChildrenOf) (input : Option Input) → P b.below → OverFields P (each_asked loader b input)
  each-over loader b (Some (Items is)) h = h
  each-over loader b input h = tt

  bound-over : (t : TypeTree) (b : ChildrenOf) (values : List ValueOf) (binding : Option BindingOf) → P b.below → OverFields P (bound_asked plan t b values binding)
  bound-over t b values (Some (by_one loader key)) h = over-if _ _ (key-over (key_from values key) _ (λ k. h))
  bound-over t b values (Some (by_many loader key)) h = over-if _ _ (key-over (key_from values key) _ (λ k. h))
  bound-over t b values (Some (by_each loader name)) h = over-if _ _ (each-over loader b (input_named name values) h)
  bound-over t b values (Some (by_via loader key steps)) h =
      over-if (nat_lt loader (length plan.bindings.loaders)) (with_steps plan steps (with_key (key_from values key) (λ k. joined_rows loader k steps b)))
      (over-if (have_loaders steps (length plan.bindings.loaders)) (with_key (key_from values key) (λ k. joined_rows loader k steps b)) (key-over (key_from values key) _ (λ k. h)))
  bound-over t b values binding h = tt

  arguments-over : (a : ArgumentsOf) (asked : List ValueOf → ValueFrom) → ((vs : List ValueOf) → OverFields P (asked vs)) → OverFields P (with_arguments a asked)
  arguments-over (null_argument name) asked h = tt
  arguments-over (all_values vs) asked h = h vs

  defined-over : (ty : List ℕ) (f : FieldOf) (g : GroupOf) (d : Option DefinedField) → P (sets_below g.fields) → OverFields P (defined_asked plan ty f g d).asked
  defined-over ty f g None h = tt
  defined-over ty f g (Some d) h = arguments-over (arguments_of plan ty g) _ (λ vs. bound-over d.of_type (children_of d.of_type f.place g.fields) vs (binding_in plan.bindings.fields ty f.name) h)

  first-over : (ty : List ℕ) (g : GroupOf) (fs : List FieldOf) → IfAny fs (P (sets_below g.fields)) → OverFields P (first_asked plan ty g fs).asked
  first-over ty g [] h = tt
  first-over ty g (f ∷ fs) h = cond_both (bytes_eq f.name (codes "__typename")) _ _ (λ (p : PreparedOf). OverFields P p.asked) (λ _. tt) (λ _. defined-over ty f g (field_in plan.definitions ty f.name) h)

-- ---- two ways of making objects that are alike over what is selected

abbrev AlikeOver : Objects → Objects → List Below → Type 0
AlikeOver objects other bs = (ty : List ℕ) (row : RowOf) → objects ty bs row ≡ other ty bs row

module _ (defs : List Definition) (objects other : Objects) where
  typed-alike : (b : ChildrenOf) (row : RowOf) (t : TypeOf) → AlikeOver objects other b.below → typed_object objects b row t ≡ typed_object other b row t
  typed-alike b row (type_fault fault) h = refl
  typed-alike b row (object_type ty) h = h ty row

  rows-alike : (b : ChildrenOf) → AlikeOver objects other b.below → row_object defs objects b ≡ row_object defs other b
  rows-alike b h = fun_ext (λ row. typed-alike b row (type_of_row defs b.type_name row) h)

  first-alike : (b : ChildrenOf) (rs : List RowOf) → AlikeOver objects other b.below → first_object defs objects b rs ≡ first_object defs other b rs
  first-alike b [] h = refl
  first-alike b (r ∷ rs) h = typed-alike b r (type_of_row defs b.type_name r) h

  firsts-alike : (b : ChildrenOf) → AlikeOver objects other b.below → first_object defs objects b ≡ first_object defs other b
  firsts-alike b h = fun_ext (λ rs. first-alike b rs h)

  alls-alike : (b : ChildrenOf) → AlikeOver objects other b.below → all_objects defs objects b ≡ all_objects defs other b
  alls-alike b h = fun_ext (λ rs. ap (λ (f : RowOf → Program). list_of b (map f rs)) (rows-alike b h))

  object-alike : (b : ChildrenOf) (steps : List StepOf) → AlikeOver objects other b.below → joined_object defs objects b steps ≡ joined_object defs other b steps
  object-alike b [] h = rows-alike b h
  object-alike b (s ∷ ss) h = fun_ext (λ row. ap (λ (next : RowOf → Program). read_from s.loader (of_column s.column) row (first_of next)) (object-alike b ss h))

  joined-alike : (b : ChildrenOf) (steps : List StepOf) → AlikeOver objects other b.below → joined_objects defs objects b steps ≡ joined_objects defs other b steps
  joined-alike b steps h = fun_ext (λ rs. ap (λ (f : RowOf → Program). list_of b (map f rs)) (object-alike b steps h))

  asked-alike : (row : RowOf) (a : ValueFrom) → OverFields (AlikeOver objects other) a → asked_program defs objects row a ≡ asked_program defs other row a
  asked-alike row (first_row loader key b) h = ap (λ (next : List RowOf → Program). read_from loader key row next) (firsts-alike b h)
  asked-alike row (all_rows loader key b) h = ap (λ (next : List RowOf → Program). read_from loader key row next) (alls-alike b h)
  asked-alike row (each_row loader keys b) h = ap (λ (next : List RowOf → Program). list_of b (map (read_if loader next) keys)) (firsts-alike b h)
  asked-alike row (joined_rows loader key steps b) h = ap (λ (next : List RowOf → Program). read_from loader key row next) (joined-alike b steps h)
  asked-alike row a h = refl

-- groups, each with fields below which they are alike
abbrev GroupsAlike : Objects → Objects → List GroupOf → Type 0
GroupsAlike objects other [] = Unit {0}
GroupsAlike objects other (g ∷ gs) = IfAny g.fields (AlikeOver objects other (sets_below g.fields)) × GroupsAlike objects other gs

fields-alike : (plan : PlanOf) (objects other : Objects) (ty : List ℕ) (row : RowOf) (gs : List GroupOf) → GroupsAlike objects other gs
    → fields_of (asked_program plan.definitions objects row) (all_prepared plan ty gs) ≡ fields_of (asked_program plan.definitions other row) (all_prepared plan ty gs)
fields-alike plan objects other ty row [] h = refl
fields-alike plan objects other ty row (g ∷ gs) h =
    let p : PreparedOf = prepared plan ty g in
    let rest = fields-alike plan objects other ty row gs h.1 in
    let own = asked-alike plan.definitions objects other row (prepared plan ty g).asked (first-over plan (AlikeOver objects other) ty g g.fields h.0) in
    ap (λ (q : Program). With (prepared plan ty g).position q (fields_of (asked_program plan.definitions objects row) (all_prepared plan ty gs))) own
    ∙ ap (λ (qs : Programs). With (prepared plan ty g).position (asked_program plan.definitions other row (prepared plan ty g).asked) qs) rest

program-alike : (plan : PlanOf) (objects other : Objects) (ty : List ℕ) (row : RowOf) (gs : List GroupOf) → GroupsAlike objects other gs
    → prepared_program plan.definitions objects (all_prepared plan ty gs) row ≡ prepared_program plan.definitions other (all_prepared plan ty gs) row
program-alike plan objects other ty row gs h = ap (Under ObjectOf) (fields-alike plan objects other ty row gs h)

-- ---- levels of what is collected

module _ (plan : PlanOf) (spread : List ℕ → ℕ) where
  -- each field that selects one of these has at most `most` levels, its own among them
  abbrev AreWithin : ℕ → List Below → Type 0
  AreWithin most [] = Unit {0}
  AreWithin most (b ∷ bs) = (levels_below spread b < most) × AreWithin most bs

  abbrev GroupsWithin : ℕ → List GroupOf → Type 0
  GroupsWithin most [] = Unit {0}
  GroupsWithin most (g ∷ gs) = AreWithin most (sets_below g.fields) × GroupsWithin most gs

  within-last : (most : ℕ) (fs : List FieldOf) (f : FieldOf) → AreWithin most (sets_below fs) → levels_below spread f.below < most → AreWithin most (sets_below (fs ++ f ∷ []))
  within-last most [] f h k = (k, tt)
  within-last most (x ∷ fs) f h k = (h.0, within-last most fs f h.1 k)

  with-within : (most : ℕ) (gs : List GroupOf) (f : FieldOf) → GroupsWithin most gs → levels_below spread f.below < most → GroupsWithin most (with_field gs f)
  with-within most [] f h k = ((k, tt), tt)
  with-within most (g ∷ gs) f h k = cond_both (bytes_eq f.key g.key) _ _ (GroupsWithin most) (λ _. (within-last most g.fields f h.0 k, h.1)) (λ _. (h.0, with-within most gs f h.1 k))

  abbrev IsWithin : ℕ → Collected → Type 0
  IsWithin most c = GroupsWithin most c.groups

  abbrev StaysWithin : ℕ → Entering → Type 0
  StaysWithin most enter = (so_far : Collected) (name : List ℕ) → spread name ≤ most → IsWithin most so_far → IsWithin most (enter so_far name)

  module _ (most : ℕ) (ty : List ℕ) (enter : Entering) (stays : StaysWithin most enter) where
    mutual
      within-one : (so_far : Collected) (s : Selection) → levels_from spread s ≤ most → IsWithin most so_far → IsWithin most (collect_one plan ty enter so_far s)
      within-one so_far (Field place alias name given ds b) le h = cond_both (is_left_out plan ds) _ _ (IsWithin most) (λ _. h) (λ _. with-within most so_far.groups (chosen_field place alias name given b) h (omega (arith, le)))
      within-one so_far (Spread place name ds) le h = cond_both (is_left_out plan ds || has_entered so_far name) _ _ (IsWithin most) (λ _. h) (λ _. stays _ name le h)
      within-one so_far (Inline place condition ds set) le h = cond_both (is_left_out plan ds || not (applies plan condition ty)) _ _ (IsWithin most) (λ _. h) (λ _. within-set so_far set le h)

      within-set : (so_far : Collected) (s : SelectionSet) → levels_in spread s ≤ most → IsWithin most so_far → IsWithin most (collect_set plan ty enter so_far s)
      within-set so_far (set_at place ss) le h = within-all so_far ss le h

      within-all : (so_far : Collected) (ss : Selections) → levels_among spread ss ≤ most → IsWithin most so_far → IsWithin most (collect_all plan ty enter so_far ss)
      within-all so_far no_selection le h = h
      within-all so_far (and_selection s ss) le h = within-all (collect_one plan ty enter so_far s) ss (omega (arith, le)) (within-one so_far s (omega (arith, le)) h)

  module _ (levels : AreLevels plan.fragments spread) where
    stays : (most : ℕ) (ty : List ℕ) (left : ℕ) → StaysWithin most (entering plan ty left)
    stays most ty zero so_far name le h = h
    stays most ty (suc left) so_far name le h = by_option (λ o. IsWithin most (enter_fragment plan ty (entering plan ty left) so_far o)) (fragment_in plan.fragments name) (λ _. h) (λ f e.
        cond_both (applies plan (Some f.condition) ty) _ _ (IsWithin most) (λ _. within-set most ty (entering plan ty left) (stays most ty left) so_far f.selection_set (let l = levels name f e in omega (arith, l, le)) h) (λ _. h))

    from-within : (most : ℕ) (ty : List ℕ) (so_far : Collected) (b : Below) → levels_below spread b ≤ most → GroupsWithin most so_far.groups → GroupsWithin most (collect_from plan ty so_far (selections_below b)).groups
    from-within most ty so_far nothing_below le h = h
    from-within most ty so_far (below (set_at place ss)) le h = within-all most ty (entering plan ty (length plan.fragments)) (stays most ty (length plan.fragments)) so_far ss le h

    below-within : (most : ℕ) (ty : List ℕ) (so_far : Collected) (bs : List Below) → AreWithin (suc most) bs → GroupsWithin most so_far.groups → GroupsWithin most (collect_subfields plan ty so_far bs).groups
    below-within most ty so_far [] w h = h
    below-within most ty so_far (b ∷ bs) w h = below-within most ty (collect_from plan ty so_far (selections_below b)) bs w.1 (from-within most ty so_far b (let l = w.0 in omega (arith, l)) h)

    -- ---- objects over more levels

    no-field : (fs : List FieldOf) (P : Type 0) → AreWithin 0 (sets_below fs) → IfAny fs P
    no-field [] P w = tt
    no-field (f ∷ fs) P w = let l = w.0 in absurd (omega (arith, l))

    if-any : (fs : List FieldOf) (P : Type 0) → P → IfAny fs P
    if-any [] P p = tt
    if-any (f ∷ fs) P p = p

    no-groups : (objects other : Objects) (gs : List GroupOf) → GroupsWithin 0 gs → GroupsAlike objects other gs
    no-groups objects other [] w = tt
    no-groups objects other (g ∷ gs) w = (no-field g.fields (AlikeOver objects other (sets_below g.fields)) w.0, no-groups objects other gs w.1)

    groups-alike : (most : ℕ) (objects other : Objects) → ((bs : List Below) → AreWithin most bs → AlikeOver objects other bs) → (gs : List GroupOf) → GroupsWithin most gs → GroupsAlike objects other gs
    groups-alike most objects other alike [] w = tt
    groups-alike most objects other alike (g ∷ gs) w = (if-any g.fields (AlikeOver objects other (sets_below g.fields)) (alike (sets_below g.fields) w.0), groups-alike most objects other alike gs w.1)

    objects-alike : (most more : ℕ) → most ≤ more → (bs : List Below) → AreWithin (suc most) bs → AlikeOver (object_program plan (suc most)) (object_program plan (suc more)) bs
    objects-alike zero more le bs w ty row =
        program-alike plan (object_program plan 0) (object_program plan more) ty row (collect_subfields plan ty nothing_collected bs).groups
        (no-groups (object_program plan 0) (object_program plan more) (collect_subfields plan ty nothing_collected bs).groups (below-within 0 ty nothing_collected bs w tt))
    objects-alike (suc most) zero le bs w ty row = absurd (omega (arith, le))
    objects-alike (suc most) (suc more) le bs w ty row =
        program-alike plan (object_program plan (suc most)) (object_program plan (suc more)) ty row (collect_subfields plan ty nothing_collected bs).groups
        (groups-alike (suc most) (object_program plan (suc most)) (object_program plan (suc more)) (λ cs v. objects-alike most more (omega (arith, le)) cs v) (collect_subfields plan ty nothing_collected bs).groups (below-within (suc most) ty nothing_collected bs w tt))

    root-within : (most : ℕ) (ty : List ℕ) (s : SelectionSet) → levels_in spread s ≤ most → GroupsWithin most (collect plan ty (selections_in s))
    root-within most ty (set_at place ss) le = within-all most ty (entering plan ty (length plan.fragments)) (stays most ty (length plan.fragments)) nothing_collected ss le tt

    programs-alike : (most more : ℕ) → most ≤ more → levels_in spread plan.operation.selection_set ≤ suc most → program_with plan (suc most) ≡ program_with plan (suc more)
    programs-alike most more le within =
        let ty : List ℕ = root_in plan.definitions in
        program-alike plan (object_program plan (suc most)) (object_program plan (suc more)) (root_in plan.definitions) [] (collect plan (root_in plan.definitions) (selections_in plan.operation.selection_set))
        (groups-alike (suc most) (object_program plan (suc most)) (object_program plan (suc more)) (λ bs v. objects-alike most more le bs v) (collect plan (root_in plan.definitions) (selections_in plan.operation.selection_set)) (root-within (suc most) (root_in plan.definitions) plan.operation.selection_set within))

    pub more-levels : (levels_there : ℕ) → levels_in spread plan.operation.selection_set ≤ most_levels → most_levels ≤ levels_there → program_with plan levels_there ≡ plan_program plan
    more-levels zero within le = absurd (omega (arith, le))
    more-levels (suc more) within le = sym (programs-alike 127 more (omega (arith, le)) within)
