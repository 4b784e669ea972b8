-- *Arguments and loads*: what a group asks for, whatever the row is: its position, and by its field's binding a cell, or
-- loads with where their keys come from.
use Rattle.std.specs.Prelude.{◌≡◌, ℕ, Bool, true, false, nat_lt, List, [], ◌∷◌, length, Option, Some, None, option_map, option_and_then, map, codes, bytes_eq, if◌then◌else◌}
use Rattle.std.specs.Fmt.{signed_decimal}
use Rattle.std.specs.List.{list_all}
use Rattle.text_place.specs.declared.place.Place.{Place}
use Rattle.gq_parser.specs.Tree.{TypeTree, Named, ListOf, Below}
use Rattle.schema_syntax.specs.Tree.{Field}
use Rattle.bindings_syntax.specs.Statements as source
use Rattle.gq_schema.specs.Inputs.{Input, Inputs, no_input, and_input, Items}
use Rattle.gq_schema.specs.Inputs as input
use Rattle.gq_schema.specs.Types.{field_in, is_non_null, core_of}
use Rattle.gq_bindings.specs.Tree.{StepOf, BindingOf, by_column, by_one, by_many, by_each, by_via, binding_in}
use Rattle.load_memory.specs.Keys.{KeyOf, all, text}
use Rattle.execution.specs.Program.{LeafValue, Value, Null, Fault, Text, FieldPosition, Key}
use Rattle.gq_check.specs.Plans.{PlanOf}
use Rattle.plan_program.specs.Groups.{FieldOf, GroupOf}
use Rattle.plan_program.specs.Arguments.{ArgumentsOf, ValueOf, all_values, null_argument, arguments_of}
use Rattle.plan_program.specs.Texts.{null_argument_message}

-- the origin of a part of a key of two: an argument, where nothing stands for null, or a column
pub data PartFrom : Type 0 where
  fixed_part : Option (List ℕ) → PartFrom
  column_part : List ℕ → PartFrom

-- says where the key of a load comes from
pub data KeyFrom : Type 0 where
  fixed : KeyOf → KeyFrom
  of_column : List ℕ → KeyFrom
  of_pair : PartFrom → PartFrom → KeyFrom

-- says what an object below a field is made from: its type's name, which may be an interface or a union, and what the
-- fields select of it; and the positions of a list's items
pub record ChildrenOf : Type 0 where
  pub type_name : List ℕ
  pub item_non_null : Bool
  pub place : Place
  pub below : List Below

pub data ValueFrom : Type 0 where
  -- one value for every row
  known : LeafValue → ValueFrom
  -- a column's field, at a type
  cell : List ℕ → TypeTree → ValueFrom
  -- the key's first row, or all of its rows
  first_row : ℕ → KeyFrom → ChildrenOf → ValueFrom
  all_rows : ℕ → KeyFrom → ChildrenOf → ValueFrom
  -- for each key its first row; no key is null
  each_row : ℕ → List (Option KeyOf) → ChildrenOf → ValueFrom
  -- the key's rows, and for each the first row of each later loader in turn, by a column of the row before
  joined_rows : ℕ → KeyFrom → List StepOf → ChildrenOf → ValueFrom

-- the position of a group, and what it asks for
pub record PreparedOf : Type 0 where
  pub position : FieldPosition
  pub asked : ValueFrom

-- ---- keys

-- a text is itself, and an Int in decimal; null and no value is no text
abbrev pub text_of_input : Input → Option (List ℕ)
text_of_input (input.Text t) = Some t
text_of_input (input.Int z) = Some (signed_decimal z)
text_of_input _ = None

abbrev pub key_of_input : Input → Option KeyOf
key_of_input i = option_map (λ t. text t) (text_of_input i)

abbrev pub input_named : List ℕ → List ValueOf → Option Input
input_named name [] = None
input_named name (v ∷ vs) = if bytes_eq name v.name then Some v.value else input_named name vs

abbrev pub key_if : Option Input → Option KeyFrom
key_if None = None
key_if (Some i) = option_map (λ key. fixed key) (key_of_input i)

abbrev pub part_from : List ValueOf → source.PartOf → PartFrom
part_from values (source.argument_part name) =
    fixed_part (option_and_then text_of_input (input_named name values))
part_from values (source.column_part column) = column_part column

abbrev pub key_from : List ValueOf → source.KeyOf → Option KeyFrom
key_from values (source.from_argument name) = key_if (input_named name values)
key_from values (source.from_column column) = Some (of_column column)
key_from values source.from_all = Some (fixed all)
key_from values (source.from_pair one two) =
    Some (of_pair (part_from values one) (part_from values two))

abbrev pub keys_of : Inputs → List (Option KeyOf)
keys_of no_input = []
keys_of (and_input i is) = key_of_input i ∷ keys_of is

-- ---- loads

-- A loader that the bindings define. Bindings that are read of a text name no other; else the field is null.
abbrev pub with_loader : PlanOf → ℕ → ValueFrom → ValueFrom
with_loader plan loader asked =
    if nat_lt loader (length plan.bindings.loaders) then asked else known Null

-- the later loaders of `via` are below `n`
abbrev pub have_loaders : List StepOf → ℕ → Bool
have_loaders steps n = list_all (λ (s : StepOf). nat_lt s.loader n) steps

abbrev pub with_steps : PlanOf → List StepOf → ValueFrom → ValueFrom
with_steps plan steps asked =
    if have_loaders steps (length plan.bindings.loaders) then asked else known Null

-- no key gives null and makes no load
abbrev pub with_key : Option KeyFrom → (KeyFrom → ValueFrom) → ValueFrom
with_key None asked = known Null
with_key (Some key) asked = asked key

-- this key is that one where the bindings define the loader, and else none
abbrev pub IsLoadedBy : PlanOf → ℕ → Option KeyFrom → Option KeyFrom → Type 0
IsLoadedBy plan loader key found = (asked : KeyFrom → ValueFrom)
    → with_loader plan loader (with_key key asked) ≡ with_key found asked

abbrev pub each_asked : ℕ → ChildrenOf → Option Input → ValueFrom
each_asked loader children (Some (Items is)) = each_row loader (keys_of is) children
each_asked loader children _ = known Null

abbrev pub bound_asked : PlanOf → TypeTree → ChildrenOf
    → List ValueOf → Option BindingOf → ValueFrom
bound_asked plan t children values None = known Null
bound_asked plan t children values (Some (by_column column)) = cell column t
bound_asked plan t children values (Some (by_one loader key)) =
    with_loader plan loader (with_key (key_from values key) (λ k. first_row loader k children))
bound_asked plan t children values (Some (by_many loader key)) =
    with_loader plan loader (with_key (key_from values key) (λ k. all_rows loader k children))
bound_asked plan t children values (Some (by_each loader name)) =
    with_loader plan loader (each_asked loader children (input_named name values))
bound_asked plan t children values (Some (by_via loader key steps)) =
    with_loader plan loader (with_steps plan steps
    (with_key (key_from values key) (λ k. joined_rows loader k steps children)))

-- ---- positions

abbrev pub item_type : TypeTree → TypeTree
item_type (Named p n non_null) = Named p n non_null
item_type (ListOf p t non_null) = t

-- what fields select, field by field
abbrev pub sets_below : List FieldOf → List Below
sets_below fields = map (λ (f : FieldOf). f.below) fields

abbrev pub children_of : TypeTree → Place → List FieldOf → ChildrenOf
children_of t place fields = record {
  type_name = (core_of t).text;
  item_non_null = is_non_null (item_type t);
  place = place;
  below = sets_below fields;
}

-- an argument's field error is the field's fault
abbrev pub with_arguments : ArgumentsOf → (List ValueOf → ValueFrom) → ValueFrom
with_arguments (null_argument name) asked = known (Fault (null_argument_message name))
with_arguments (all_values values) asked = asked values

abbrev pub position_of : List ℕ → Place → Bool → FieldPosition
position_of key place non_null = record { part = Key key; non_null = non_null; place = place }

-- gives what a group asks for by the definition of its field
abbrev pub asked_by : PlanOf → List ℕ → FieldOf → GroupOf → Field → ValueFrom
asked_by plan ty f g d =
    with_arguments (arguments_of plan ty g) (λ values. bound_asked plan d.of_type
    (children_of d.of_type f.place g.fields) values (binding_in plan.bindings.fields ty f.name))

-- A field that the object type has no definition of, which no valid plan has, is null.
abbrev pub defined_asked : PlanOf → List ℕ → FieldOf → GroupOf → Option Field → PreparedOf
defined_asked plan ty f g None =
    record { position = position_of g.key f.place false; asked = known Null }
defined_asked plan ty f g (Some d) = record {
  position = position_of g.key f.place (is_non_null d.of_type);
  asked = asked_by plan ty f g d;
}

-- `__typename` is the object type's name
abbrev pub field_asked : PlanOf → List ℕ → FieldOf → GroupOf → PreparedOf
field_asked plan ty f g =
    if bytes_eq f.name (codes "__typename")
    then record { position = position_of g.key f.place true; asked = known (Value (Text ty)) }
    else defined_asked plan ty f g (field_in plan.definitions ty f.name)

-- the group of no field, which no collection has, is null
abbrev pub first_asked : PlanOf → List ℕ → GroupOf → List FieldOf → PreparedOf
first_asked plan ty g [] = record {
  position = position_of g.key (record { line = 1; column = 1 }) false;
  asked = known Null;
}
first_asked plan ty g (f ∷ fs) = field_asked plan ty f g

-- errors stand at the first field of the group
abbrev pub prepared : PlanOf → List ℕ → GroupOf → PreparedOf
prepared plan ty g = first_asked plan ty g g.fields

abbrev pub all_prepared : PlanOf → List ℕ → List GroupOf → List PreparedOf
all_prepared plan ty gs = map (prepared plan ty) gs
