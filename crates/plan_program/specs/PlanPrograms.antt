-- The program of a plan (sections 6.2 to 6.4): the root's groups and, over each row that a load gives, the groups of the
-- row's object type.
use Rattle.std.specs.Prelude.{ℕ, zero, suc, Bool, true, false, ◌||◌, List, [], ◌∷◌, map, Option, Some, None, option_map, codes, bytes_eq, if◌then◌else◌}
use Rattle.text_place.specs.declared.place.Place.{Place}
use Rattle.gq_parser.specs.Tree.{TypeTree, Named, ListOf, Below}
use Rattle.schema_syntax.specs.Tree.{Definition}
use Rattle.gq_schema.specs.Types.{root_in, has_value, can_be}
use Rattle.gq_bindings.specs.Types.{is_object_type}
use Rattle.gq_schema.specs.Coercion.{int_of}
use Rattle.load_memory.specs.Keys.{KeyOf, text, pair}
use Rattle.load_memory.specs.Rows.{RowOf, cell_of}
use Rattle.load_memory.specs.Outcomes.{OutcomeOf, known, batch_fault, rows, key_fault}
use Rattle.execution.specs.Program.{Leaf, Text, Int, Boolean, LeafValue, Value, Null, Fault, ListOf as Listed, ObjectOf, Item, Program, Is, Read, Under, Programs, End, With}
use Rattle.gq_check.specs.Plans.{PlanOf}
use Rattle.plan_program.specs.Groups.{selections_in, nothing_collected, collect, collect_subfields}
use Rattle.gq_bindings.specs.Tree.{StepOf}
use Rattle.plan_program.specs.FieldValues.{PartFrom, fixed_part, column_part, KeyFrom, fixed, of_column, of_pair, ChildrenOf, ValueFrom, known as settled, cell, first_row, all_rows, each_row, joined_rows, PreparedOf, all_prepared}
use Rattle.plan_program.specs.Texts.{bad_value_message, no_column_message, no_type_message, not_type_message, is_int_text}

-- ---- cells

abbrev pub boolean_of : List ℕ → Option Leaf
boolean_of t = if bytes_eq t (codes "true") then Some (Boolean true)
    else (if bytes_eq t (codes "false") then Some (Boolean false) else None)

-- an Int cell is an Int's text within signed 32 bits
abbrev pub int_leaf : List ℕ → Option Leaf
int_leaf t = if is_int_text t then option_map (λ z. Int z) (int_of t) else None

abbrev pub text_if : Bool → List ℕ → Option Leaf
text_if b t = if b then Some (Text t) else None

-- gives what the text of a cell is at the type of this name, where it is right (section 3.5, Result Coercion)
abbrev pub named_leaf : List Definition → List ℕ → List ℕ → Option Leaf
named_leaf defs name t =
    if bytes_eq name (codes "Int") then int_leaf t
    else (if bytes_eq name (codes "Boolean") then boolean_of t
    else text_if
    (bytes_eq name (codes "String") || (bytes_eq name (codes "ID") || has_value defs name t)) t)

abbrev pub leaf_of : List Definition → TypeTree → List ℕ → Option Leaf
leaf_of defs (Named p name non_null) t = named_leaf defs name t
leaf_of defs (ListOf p t non_null) u = None

abbrev pub or_bad : List ℕ → Option Leaf → LeafValue
or_bad column None = Fault (bad_value_message column)
or_bad column (Some leaf) = Value leaf

-- an empty cell is null
abbrev pub cell_value : List Definition → List ℕ → TypeTree → Option (List ℕ) → LeafValue
cell_value defs column t None = Fault (no_column_message column)
cell_value defs column t (Some []) = Null
cell_value defs column t (Some (c ∷ cs)) = or_bad column (leaf_of defs t (c ∷ cs))

-- ---- object types

-- an object type, or why there is none
pub data TypeOf : Type 0 where
  object_type : List ℕ → TypeOf
  type_fault : List ℕ → TypeOf

abbrev pub typename : List ℕ
typename = codes "__typename"

-- the type that a row names in its column `__typename`
abbrev pub resolved_type : List Definition → List ℕ → Option (List ℕ) → TypeOf
resolved_type defs name None = type_fault (no_column_message typename)
resolved_type defs name (Some []) = type_fault no_type_message
resolved_type defs name (Some (c ∷ cs)) = if can_be defs name (c ∷ cs) then object_type (c ∷ cs)
    else type_fault (not_type_message (c ∷ cs))

-- the object type of a row that stands for the type of this name (section 6.4.3, ResolveAbstractType)
abbrev pub type_of_row : List Definition → List ℕ → RowOf → TypeOf
type_of_row defs name row = if is_object_type defs name then object_type name
    else resolved_type defs name (cell_of row typename)

-- ---- positions

-- the places of a list, from a number on
abbrev pub places : Bool → Place → ℕ → List Program → Programs
places non_null place n [] = End
places non_null place n (p ∷ ps) =
    With (record { part = Item n; non_null = non_null; place = place }) p
    (places non_null place (suc n) ps)

abbrev pub list_of : ChildrenOf → List Program → Program
list_of children ps = Under Listed (places children.item_non_null children.place 0 ps)

-- the positions of an object
abbrev pub fields_of : (ValueFrom → Program) → List PreparedOf → Programs
fields_of program [] = End
fields_of program (p ∷ ps) = With p.position (program p.asked) (fields_of program ps)

-- says what is selected of an object of this type over a row
abbrev pub Objects : Type 0
Objects = List ℕ → List Below → RowOf → Program

abbrev pub typed_object : Objects → ChildrenOf → RowOf → TypeOf → Program
typed_object objects children row (type_fault fault) = Is (Fault fault)
typed_object objects children row (object_type ty) = objects ty children.below row

abbrev pub row_object : List Definition → Objects → ChildrenOf → RowOf → Program
row_object defs objects children row =
    typed_object objects children row (type_of_row defs children.type_name row)

-- ---- loads

abbrev pub with_rows : (List RowOf → Program) → OutcomeOf → Program
with_rows next (known (rows rs)) = next rs
with_rows next (known (key_fault fault)) = Is (Fault fault)
with_rows next (batch_fault fault) = Is (Fault fault)

abbrev pub read_key : ℕ → KeyOf → (List RowOf → Program) → Program
read_key loader key next = Read (record { loader = loader; key = key }) (with_rows next)

-- the key of a column; an empty cell is no key
abbrev pub read_cell : ℕ → List ℕ → Option (List ℕ) → (List RowOf → Program) → Program
read_cell loader column None next = Is (Fault (no_column_message column))
read_cell loader column (Some []) next = Is Null
read_cell loader column (Some (c ∷ cs)) next = read_key loader (text (c ∷ cs)) next

-- says what a part of a key of two is over a row: its text, of which nothing is null, or the column that the row doesn't
-- have
pub data PartOver : Type 0 where
  known_part : Option (List ℕ) → PartOver
  lacking : List ℕ → PartOver

-- an empty cell is null
abbrev pub part_of_cell : List ℕ → Option (List ℕ) → PartOver
part_of_cell column None = lacking column
part_of_cell column (Some []) = known_part None
part_of_cell column (Some (c ∷ cs)) = known_part (Some (c ∷ cs))

abbrev pub part_over : PartFrom → RowOf → PartOver
part_over (fixed_part t) row = known_part t
part_over (column_part column) row = part_of_cell column (cell_of row column)

-- the key of two parts; a null part is no key, and the first column that isn't there is a fault, whatever the other part is
abbrev pub read_pair : ℕ → PartOver → PartOver → (List RowOf → Program) → Program
read_pair loader (lacking column) two next = Is (Fault (no_column_message column))
read_pair loader (known_part one) (lacking column) next = Is (Fault (no_column_message column))
read_pair loader (known_part None) (known_part two) next = Is Null
read_pair loader (known_part (Some s)) (known_part None) next = Is Null
read_pair loader (known_part (Some s)) (known_part (Some t)) next = read_key loader (pair s t) next

abbrev pub read_from : ℕ → KeyFrom → RowOf → (List RowOf → Program) → Program
read_from loader (fixed key) row next = read_key loader key next
read_from loader (of_column column) row next = read_cell loader column (cell_of row column) next
read_from loader (of_pair one two) row next =
    read_pair loader (part_over one row) (part_over two row) next

abbrev pub read_if : ℕ → (List RowOf → Program) → Option KeyOf → Program
read_if loader next None = Is Null
read_if loader next (Some key) = read_key loader key next

-- the first of the rows, or null
abbrev pub first_of : (RowOf → Program) → List RowOf → Program
first_of object [] = Is Null
first_of object (r ∷ rs) = object r

module _ (defs : List Definition) (objects : Objects) where
  abbrev pub first_object : ChildrenOf → List RowOf → Program
  first_object children rs = first_of (row_object defs objects children) rs

  abbrev pub all_objects : ChildrenOf → List RowOf → Program
  all_objects children rs = list_of children (map (row_object defs objects children) rs)

  -- The object that later loaders come to from a row, each by a column of the row before. A null key or no row is null, and
  -- asks no further loader.
  abbrev pub joined_object : ChildrenOf → List StepOf → RowOf → Program
  joined_object children [] row = row_object defs objects children row
  joined_object children (s ∷ ss) row =
      read_from s.loader (of_column s.column) row (first_of (joined_object children ss))

  abbrev pub joined_objects : ChildrenOf → List StepOf → List RowOf → Program
  joined_objects children steps rs = list_of children (map (joined_object children steps) rs)

  -- gives what comes of what a group asks for, over a row
  abbrev pub asked_program : RowOf → ValueFrom → Program
  asked_program row (settled leaf_value) = Is leaf_value
  asked_program row (cell column t) = Is (cell_value defs column t (cell_of row column))
  asked_program row (first_row loader key children) =
      read_from loader key row (first_object children)
  asked_program row (all_rows loader key children) = read_from loader key row (all_objects children)
  asked_program row (each_row loader keys children) =
      list_of children (map (read_if loader (first_object children)) keys)
  asked_program row (joined_rows loader key steps children) =
      read_from loader key row (joined_objects children steps)

  -- an object over a row
  abbrev pub prepared_program : List PreparedOf → RowOf → Program
  prepared_program ps row = Under ObjectOf (fields_of (asked_program row) ps)

-- An object with this number of levels of fields. A plan's document has no more than the plan's levels.
abbrev pub object_program : PlanOf → ℕ → Objects
object_program plan zero ty below row = Is Null
object_program plan (suc levels) ty below row =
    prepared_program plan.definitions (object_program plan levels)
    (all_prepared plan ty (collect_subfields plan ty nothing_collected below).groups) row

-- gives how many levels of fields a valid document has at most
abbrev pub most_levels : ℕ
most_levels = 128

-- the prepared groups of the root
abbrev pub root_prepared : PlanOf → List PreparedOf
root_prepared plan = all_prepared plan (root_in plan.definitions)
    (collect plan (root_in plan.definitions) (selections_in plan.operation.selection_set))

-- The program of a plan: its root object, which has no row. Its fields are the first level.
abbrev pub plan_program : PlanOf → Program
plan_program plan =
    prepared_program plan.definitions (object_program plan most_levels) (root_prepared plan) []
