-- Each item of a plan's program goes by its number, and each field by its key.
use Rattle.std.proofs.Common.{ℕ, zero, suc, Bool, true, false, List, [], ◌∷◌, map, Option, Some, None, if◌then◌else◌, refl}
use Rattle.std.specs.Prelude.{bytes_eq, codes}
use Rattle.text_place.specs.declared.place.Place.{Place}
use Rattle.gq_parser.specs.Tree.{Below}
use Rattle.schema_syntax.specs.Tree.{Definition, Field}
use Rattle.gq_bindings.specs.Tree.{StepOf}
use Rattle.gq_schema.specs.Types.{field_in, root_in}
use Rattle.load_memory.specs.Keys.{KeyOf}
use Rattle.load_memory.specs.Rows.{RowOf, cell_of}
use Rattle.load_memory.specs.Outcomes.{OutcomeOf, known, batch_fault, rows, key_fault}
use Rattle.execution.specs.Program.{Value, Text, ListOf, ObjectOf, Program}
use Rattle.gq_check.specs.Plans.{PlanOf}
use Rattle.plan_program.specs.Groups.{FieldOf, GroupOf, selections_in, nothing_collected, collect, collect_subfields}
use Rattle.plan_program.specs.FieldValues.{KeyFrom, fixed, of_column, of_pair, ChildrenOf, ValueFrom, known as settled, cell, first_row, all_rows, each_row, joined_rows, PreparedOf, defined_asked, field_asked, first_asked, position_of, all_prepared}
use Rattle.plan_program.specs.PlanPrograms.{TypeOf, object_type, type_fault, type_of_row, places, fields_of, Objects, typed_object, row_object, with_rows, read_cell, PartOver, known_part, lacking, part_over, read_pair, read_from, read_if, first_of, first_object, all_objects, joined_object, joined_objects, asked_program, object_program, most_levels, root_prepared, plan_program}
use Rattle.gq_resolve.specs.ReadBack.{IsStep, IsNumbered, AreNumbered}

-- ---- loads

-- each goes on so
abbrev AllGoOn : (List RowOf → Program) → Type 0
AllGoOn next = (rs : List RowOf) → IsNumbered (next rs)

numbered-rows : (next : List RowOf → Program) → AllGoOn next → (o : OutcomeOf) → IsNumbered (with_rows next o)
numbered-rows next h (known (rows rs)) = h rs
numbered-rows next h (known (key_fault fault)) = tt
numbered-rows next h (batch_fault fault) = tt

numbered-cell : (loader : ℕ) (column : List ℕ) (c : Option (List ℕ)) (next : List RowOf → Program) → AllGoOn next → IsNumbered (read_cell loader column c next)
numbered-cell loader column None next h = tt
numbered-cell loader column (Some []) next h = tt
numbered-cell loader column (Some (c ∷ cs)) next h = numbered-rows next h

numbered-pair : (loader : ℕ) (one two : PartOver) (next : List RowOf → Program) → AllGoOn next → IsNumbered (read_pair loader one two next)
numbered-pair loader (lacking column) two next h = tt
numbered-pair loader (known_part one) (lacking column) next h = tt
numbered-pair loader (known_part None) (known_part two) next h = tt
numbered-pair loader (known_part (Some s)) (known_part None) next h = tt
numbered-pair loader (known_part (Some s)) (known_part (Some t)) next h = numbered-rows next h

numbered-from : (loader : ℕ) (from : KeyFrom) (row : RowOf) (next : List RowOf → Program) → AllGoOn next → IsNumbered (read_from loader from row next)
numbered-from loader (fixed key) row next h = numbered-rows next h
numbered-from loader (of_column column) row next h = numbered-cell loader column (cell_of row column) next h
numbered-from loader (of_pair one two) row next h = numbered-pair loader (part_over one row) (part_over two row) next h

numbered-if : (loader : ℕ) (next : List RowOf → Program) → AllGoOn next → (key : Option KeyOf) → IsNumbered (read_if loader next key)
numbered-if loader next h None = tt
numbered-if loader next h (Some key) = numbered-rows next h

-- ---- lists

numbered-places : {A : Type 0} (non_null : Bool) (place : Place) (n : ℕ) (f : A → Program) (xs : List A) → ((x : A) → IsNumbered (f x)) → AreNumbered ListOf n (places non_null place n (map f xs))
numbered-places non_null place n f [] h = tt
numbered-places non_null place n f (x ∷ xs) h = (refl, h x, numbered-places non_null place (suc n) f xs h)

-- ---- objects

-- each field goes by its key
abbrev AllKeys : List PreparedOf → Type 0
AllKeys [] = Unit {0}
AllKeys (p ∷ ps) = ((n : ℕ) → IsStep ObjectOf n p.position.part) × AllKeys ps

key-defined : (plan : PlanOf) (ty : List ℕ) (f : FieldOf) (g : GroupOf) (d : Option Field) (n : ℕ) → IsStep ObjectOf n (defined_asked plan ty f g d).position.part
key-defined plan ty f g None n = tt
key-defined plan ty f g (Some d) n = tt

key-field : (plan : PlanOf) (ty : List ℕ) (f : FieldOf) (g : GroupOf) (n : ℕ) → IsStep ObjectOf n (field_asked plan ty f g).position.part
key-field plan ty f g n = elim (bytes_eq f.name (codes "__typename")) as (λ (b : Bool). IsStep ObjectOf n (if b then record { position = position_of g.key f.place true; asked = settled (Value (Text ty)) } else defined_asked plan ty f g (field_in plan.definitions ty f.name)).position.part) [
  | true ↦ tt
  | false ↦ key-defined plan ty f g (field_in plan.definitions ty f.name) n
]

key-first : (plan : PlanOf) (ty : List ℕ) (g : GroupOf) (fs : List FieldOf) (n : ℕ) → IsStep ObjectOf n (first_asked plan ty g fs).position.part
key-first plan ty g [] n = tt
key-first plan ty g (f ∷ fs) n = key-field plan ty f g n

all-keys : (plan : PlanOf) (ty : List ℕ) (gs : List GroupOf) → AllKeys (all_prepared plan ty gs)
all-keys plan ty [] = tt
all-keys plan ty (g ∷ gs) = (key-first plan ty g g.fields, all-keys plan ty gs)

module _ (defs : List Definition) (objects : Objects) (made : (ty : List ℕ) (below : List Below) (row : RowOf) → IsNumbered (objects ty below row)) where
  numbered-typed : (children : ChildrenOf) (row : RowOf) (ty : TypeOf) → IsNumbered (typed_object objects children row ty)
  numbered-typed children row (type_fault fault) = tt
  numbered-typed children row (object_type ty) = made ty children.below row

  numbered-row : (children : ChildrenOf) (row : RowOf) → IsNumbered (row_object defs objects children row)
  numbered-row children row = numbered-typed children row (type_of_row defs children.type_name row)

  numbered-first : (children : ChildrenOf) → AllGoOn (first_object defs objects children)
  numbered-first children [] = tt
  numbered-first children (row ∷ rs) = numbered-row children row

  numbered-later : (object : RowOf → Program) → ((row : RowOf) → IsNumbered (object row)) → AllGoOn (first_of object)
  numbered-later object h [] = tt
  numbered-later object h (row ∷ rs) = h row

  numbered-joined : (children : ChildrenOf) (steps : List StepOf) (row : RowOf) → IsNumbered (joined_object defs objects children steps row)
  numbered-joined children [] row = numbered-row children row
  numbered-joined children (s ∷ ss) row =
      numbered-from s.loader (of_column s.column) row (first_of (joined_object defs objects children ss)) (numbered-later (joined_object defs objects children ss) (numbered-joined children ss))

  numbered-asked : (row : RowOf) (asked : ValueFrom) → IsNumbered (asked_program defs objects row asked)
  numbered-asked row (settled leaf_value) = tt
  numbered-asked row (cell column t) = tt
  numbered-asked row (first_row loader key children) = numbered-from loader key row (first_object defs objects children) (numbered-first children)
  numbered-asked row (all_rows loader key children) =
      numbered-from loader key row (all_objects defs objects children) (λ rs. numbered-places children.item_non_null children.place 0 (row_object defs objects children) rs (numbered-row children))
  numbered-asked row (each_row loader keys children) =
      numbered-places children.item_non_null children.place 0 (read_if loader (first_object defs objects children)) keys (numbered-if loader (first_object defs objects children) (numbered-first children))
  numbered-asked row (joined_rows loader key steps children) =
      numbered-from loader key row (joined_objects defs objects children steps) (λ rs. numbered-places children.item_non_null children.place 0 (joined_object defs objects children steps) rs (numbered-joined children steps))

  numbered-fields : (row : RowOf) (n : ℕ) (ps : List PreparedOf) → AllKeys ps → AreNumbered ObjectOf n (fields_of (asked_program defs objects row) ps)
  numbered-fields row n [] keys = tt
  numbered-fields row n (p ∷ ps) (key, keys) = (key n, numbered-asked row p.asked, numbered-fields row (suc n) ps keys)

numbered-object : (plan : PlanOf) (levels : ℕ) (ty : List ℕ) (below : List Below) (row : RowOf) → IsNumbered (object_program plan levels ty below row)
numbered-object plan zero ty below row = tt
numbered-object plan (suc levels) ty below row =
    numbered-fields plan.definitions (object_program plan levels) (numbered-object plan levels) row 0
    (all_prepared plan ty (collect_subfields plan ty nothing_collected below).groups) (all-keys plan ty (collect_subfields plan ty nothing_collected below).groups)

-- of a whole plan
pub numbered-plan : (plan : PlanOf) → IsNumbered (plan_program plan)
numbered-plan plan =
    numbered-fields plan.definitions (object_program plan most_levels) (numbered-object plan most_levels) [] 0 (root_prepared plan)
    (all-keys plan (root_in plan.definitions) (collect plan (root_in plan.definitions) (selections_in plan.operation.selection_set)))
