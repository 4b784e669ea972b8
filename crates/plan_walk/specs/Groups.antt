-- Definitions of what is kept of the groups that load, by their numbers.
use Rattle.std.specs.Prelude.{◌≡◌, ◌<◌, ◌≤◌, ℕ, true, false, List, [], ◌∷◌, length, map, take, Option, Some, None, IfSome}
use Rattle.std.specs.List.{All, AllZip, slice_get}
use Rattle.std.specs.Option.{option_map_or}
use Rattle.std.specs.Arc.{arc_value}
use Rattle.std.specs.declared.sync.Arc.{Arc}
use Rattle.std.specs.declared.alloc.Global.{Global}
use Rattle.schema_syntax.specs.Tree.{Definition}
use Rattle.gq_bindings.specs.Types.{is_object_type}
use Rattle.gq_bindings.specs.Tree.{StepOf}
use Rattle.gq_bindings.specs.Seen.{step_of}
use Rattle.load_memory.specs.Rows.{RowOf, cell_of}
use Rattle.execution.specs.Program.{Program, Is, Under, Programs, End, With, ListOf}
use Rattle.gq_check.specs.Plans.{PlanOf}
use Rattle.gq_variables.specs.Variables.{VariableOf}
use Rattle.plan_program.specs.Groups.{GroupOf, nothing_collected, collect_subfields}
use Rattle.plan_program.specs.FieldValues.{ChildrenOf, ValueFrom, PreparedOf, prepared, all_prepared}
use Rattle.plan_program.specs.Prepared.{leaf_value_seen, key_from_seen, keys_seen, children_seen}
use Rattle.plan_program.specs.PlanPrograms.{places, fields_of, read_from, read_if, first_object, all_objects, first_of, joined_object, joined_objects, asked_program, object_program}
use Rattle.plan_program.specs.ObjectTypes.{name_in, is_found, IsOf}
use Rattle.plan_program.specs.OtherVariables.{AgreesOnDirectives, with_variables}
use Rattle.plan_program.specs.RowUses.{UseOf, First, Each, Joined, BelowOf, below_in, LoadOf, load_in}
use Rattle.plan_program.specs.declared.object_type.ObjectType.{ObjectType}
use Rattle.plan_program.specs.declared.prepared.Children.{Children}
use Rattle.plan_walk.specs.LeafTypes.{cell_at}
use Rattle.plan_walk.specs.Steps.{last_steps}
use Rattle.plan_walk.specs.Puts.{OnwardOf, View}
use Rattle.plan_walk.specs.Positions.{is_non_null, member_position}
use Rattle.plan_walk.specs.declared.loading_fields.FieldResolver.{FieldResolver}
use Rattle.plan_walk.specs.declared.loading_fields.FieldResolver.TheVariants as asks
use Rattle.plan_walk.specs.declared.loading_fields.Member.{Member}
use Rattle.plan_walk.specs.declared.loading_fields.TypePositions.{TypePositions}
use Rattle.plan_walk.specs.declared.loading_fields.LoadingField.{LoadingField}
use Rattle.plan_walk.specs.declared.loading_fields.RowUse as rust-use
use Rattle.plan_walk.specs.declared.loading_fields.RowUse.TheVariants as rust-uses
use Rattle.plan_walk.specs.declared.loading_fields.TakenRows.{TakenRows}
use Rattle.plan_walk.specs.declared.loading_fields.TakenRows.TheVariants as taken

abbrev pub children_in : Arc Children Global → ChildrenOf
children_in children = children_seen (arc_value children)

-- ---- what a group does with the rows of its load

abbrev pub use_seen : rust-use.RowUse → UseOf
use_seen rust-uses.First = First
use_seen rust-uses.All = Each
use_seen (rust-uses.Joined steps) = Joined (map step_of (arc_value steps).items)

-- the rows have `levels` levels of objects below them
abbrev pub then_rows : PlanOf → ℕ → UseOf → ChildrenOf → List RowOf → Program
then_rows plan levels First children rows =
    first_object plan.definitions (object_program plan levels) children rows
then_rows plan levels Each children rows =
    all_objects plan.definitions (object_program plan levels) children rows
then_rows plan levels (Joined steps) children rows =
    joined_objects plan.definitions (object_program plan levels) children steps rows

-- the later loaders of its `via`
abbrev pub steps_in : UseOf → List StepOf
steps_in First = []
steps_in Each = []
steps_in (Joined steps) = steps

-- how many rows are taken, and how many later loaders go on from each
abbrev pub taken_by : UseOf → TakenRows
taken_by First = taken.First
taken_by Each = taken.All 0
taken_by (Joined steps) = taken.All (length steps)

-- after a later load the first row is taken, and `left` of these loaders are left
abbrev pub next_rows : PlanOf → ℕ → Option ℕ → UseOf → ChildrenOf → List RowOf → Program
next_rows plan levels None next children rows = then_rows plan levels next children rows
next_rows plan levels (Some left) next children rows = first_of (joined_object plan.definitions
    (object_program plan levels) children (last_steps left (steps_in next))) rows

-- gives what the group of a number stands for; past the last of them nothing
abbrev pub nowhere : ChildrenOf
nowhere = record {
  type_name = [];
  item_non_null = false;
  place = record { line = 1; column = 1 };
  below = [];
}

abbrev pub children_at : List LoadingField → ℕ → ChildrenOf
children_at gs i =
    option_map_or (λ (g : LoadingField). children_in g.children) (slice_get gs i) nowhere

abbrev pub then_at : List LoadingField → ℕ → UseOf
then_at gs i = option_map_or (λ (g : LoadingField). use_seen g.then) (slice_get gs i) First

abbrev pub after_at : PlanOf → List LoadingField → OnwardOf → List RowOf → Program
after_at plan gs onward = next_rows plan onward.levels onward.later (then_at gs onward.group)
    (children_at gs onward.group)

-- gives what the groups do
abbrev pub view_of : PlanOf → List LoadingField → View
view_of plan gs = record { count = length gs; after = after_at plan gs }

-- the view tells of each of these groups what it does
pub record Covers (plan : PlanOf) (gs : List LoadingField) (v : View) : Type 0 where
  pub count : length gs ≤ v.count
  pub tells : (onward : OnwardOf) → onward.group < length gs
      → v.after onward ≡ after_at plan gs onward

-- ---- what a member asks for over a row

abbrev pub asks_seen : List Definition → View → ℕ → RowOf → FieldResolver → Program
asks_seen defs v levels row (asks.Known leaf_value) = Is (leaf_value_seen leaf_value)
asks_seen defs v levels row (asks.Cell column ty) =
    Is (cell_at defs column ty (cell_of row column))
asks_seen defs v levels row (asks.Load loader key group) = read_from loader (key_from_seen key) row
    (v.after (record { group = group; later = None; levels = levels }))
asks_seen defs v levels row (asks.Each loader keys items group) =
    Under ListOf (places (is_non_null items.nullability) items.place 0 (map (read_if loader (v.after
    (record { group = group; later = None; levels = levels }))) (keys_seen keys.items)))

abbrev pub members_seen : List Definition → View → ℕ → RowOf → List Member → Programs
members_seen defs v levels row [] = End
members_seen defs v levels row (m ∷ ms) = With (member_position m.position)
    (asks_seen defs v levels row m.asks) (members_seen defs v levels row ms)

-- its group is below `count`
abbrev pub IsAsked : ℕ → FieldResolver → Type 0
IsAsked count (asks.Known leaf_value) = Unit {0}
IsAsked count (asks.Cell column ty) = Unit {0}
IsAsked count (asks.Load loader key group) = group < count
IsAsked count (asks.Each loader keys items group) = group < count

abbrev pub AreKnown : ℕ → List Member → Type 0
AreKnown count ms = All (λ (m : Member). IsAsked count m.asks) ms

-- ---- shapes

-- gives what the plan asks of an object of this type below a group
abbrev pub type_prepared : PlanOf → ChildrenOf → List ℕ → List PreparedOf
type_prepared plan children ty =
    all_prepared plan ty (collect_subfields plan ty nothing_collected children.below).groups

-- over each row the members are these groups, however many levels of objects there are below
abbrev pub AreMembers : PlanOf → View → List Member → List PreparedOf → Type 0
AreMembers plan v ms ps = (levels : ℕ) (row : RowOf)
    → members_seen plan.definitions v levels row ms
    ≡ fields_of (asked_program plan.definitions (object_program plan levels) row) ps

-- the members, over these groups, are what the plan asks
pub record Makes (plan : PlanOf) (gs : List LoadingField) (ms : List Member)
    (ps : List PreparedOf) : Type 0 where
  pub known : AreKnown (length gs) ms
  pub members : (v : View) → Covers plan gs v → AreMembers plan v ms ps

-- each object below a group has this type, since its field is of that object type
pub record IsOnly (defs : List Definition) (children : ChildrenOf) (ty : List ℕ) : Type 0 where
  pub object : is_object_type defs children.type_name ≡ true
  pub same : ty ≡ children.type_name

-- an object type below a group is of the plan; where it was found, each object there has it
pub record IsBelow (plan : PlanOf) (children : ChildrenOf) (ty : ObjectType) : Type 0 where
  pub within : IsOf plan ty
  pub only : is_found ty ≡ true → IsOnly plan.definitions children (name_in ty)

pub record IsShape (plan : PlanOf) (gs : List LoadingField) (children : ChildrenOf)
    (s : TypePositions) : Type 0 where
  pub makes : Makes plan gs (arc_value s.members).items
      (type_prepared plan children s.ty)
  pub only : s.only ≡ true → IsOnly plan.definitions children s.ty

abbrev pub IsRight : PlanOf → List LoadingField → LoadingField → Type 0
IsRight plan gs g = All (IsShape plan gs (children_in g.children)) g.shapes

-- each shape of a group is what the plan asks of its objects
abbrev pub AreRight : PlanOf → List LoadingField → Type 0
AreRight plan gs = All (IsRight plan gs) gs

-- there may be more groups and shapes, and each group does what it did
pub record Grows (plan : PlanOf) (old new : List LoadingField) : Type 0 where
  pub longer : length old ≤ length new
  pub stand : (i : ℕ) → i < length old → children_at new i ≡ children_at old i
  pub covers : (v : View) → Covers plan new v → Covers plan old v
  pub right : AreRight plan old → AreRight plan new

-- the groups grow, where the shape is right below the group of this number, or that isn't below `count`
abbrev pub GrowsByShape : ℕ → ℕ → TypePositions → List LoadingField → List LoadingField → Type 0
GrowsByShape count group shape old new = (plan : PlanOf)
    → (group < count → IsShape plan old (children_at old group) shape) → Grows plan old new

-- ---- groups that serve what is asked for

-- over each view of the groups one of them goes on with the rows of its load as this says
pub record Serves (plan : PlanOf) (gs : List LoadingField) (number : ℕ) (below : BelowOf)
    : Type 0 where
  pub within : number < length gs
  pub after : (v : View) → Covers plan gs v → (levels : ℕ)
      → v.after (record { group = number; later = None; levels = levels })
      ≡ then_rows plan levels below.next below.children

-- the group serves what is loaded, and something is
abbrev pub ServesLoad : PlanOf → List LoadingField → ℕ → Option BelowOf → Type 0
ServesLoad plan gs number None = ⊥
ServesLoad plan gs number (Some below) = Serves plan gs number below

-- the group would serve what is loaded, if something is
abbrev pub MayServe : PlanOf → List LoadingField → ℕ → Option BelowOf → Type 0
MayServe plan gs number None = Unit {0}
MayServe plan gs number (Some below) = Serves plan gs number below

-- the group of what a position asks for, if it has one
abbrev pub group_in : FieldResolver → Option ℕ
group_in (asks.Known leaf_value) = None
group_in (asks.Cell column ty) = None
group_in (asks.Load loader key group) = Some group
group_in (asks.Each loader keys items group) = Some group

-- the load of one key that a position asks for
abbrev pub load_seen : FieldResolver → Option LoadOf
load_seen (asks.Known leaf_value) = None
load_seen (asks.Cell column ty) = None
load_seen (asks.Load loader key group) =
    Some (record { loader = loader; key = key_from_seen key })
load_seen (asks.Each loader keys items group) = None

-- the group of what a position asks for serves what this value loads
abbrev pub IsServed : PlanOf → List LoadingField → ValueFrom → FieldResolver → Type 0
IsServed plan gs asked asks = IfSome (group_in asks)
    (λ number. ServesLoad plan gs number (below_in asked))

-- the member has the position of this group of fields and its load, which the member's group serves
pub record IsServedBy (plan : PlanOf) (gs : List LoadingField) (p : PreparedOf) (m : Member)
    : Type 0 where
  pub position : member_position m.position ≡ p.position
  pub load : load_seen m.asks ≡ load_in p.asked
  pub served : IsServed plan gs p.asked m.asks

abbrev pub AreServed : PlanOf → List LoadingField → List PreparedOf → List Member → Type 0
AreServed plan gs ps ms = AllZip (IsServedBy plan gs) ps ms

-- ---- what is made

-- a group more, of this number
pub record IsNew (old new : List LoadingField) (next : UseOf) (children : ChildrenOf)
    (number : ℕ) : Type 0 where
  pub grows : (plan : PlanOf) → Grows plan old new
  pub front : take (length old) new ≡ old
  pub within : number < length new
  pub does : then_at new number ≡ next
  pub stands : children_at new number ≡ children

-- with the groups that it needs it asks for this, over a plan
pub record IsAskingOver (plan : PlanOf) (old new : List LoadingField) (asked : ValueFrom)
    (asks : FieldResolver) : Type 0 where
  pub grows : Grows plan old new
  pub known : IsAsked (length new) asks
  pub same : (v : View) → Covers plan new v → (levels : ℕ) (row : RowOf)
      → asks_seen plan.definitions v levels row asks
      ≡ asked_program plan.definitions (object_program plan levels) row asked
  pub load : load_seen asks ≡ load_in asked
  pub served : IsServed plan new asked asks

-- the same over each plan, with groups that come behind those that there were
pub record IsAsking (old new : List LoadingField) (asked : ValueFrom)
    (asks : FieldResolver) : Type 0 where
  pub front : take (length old) new ≡ old
  pub over : (plan : PlanOf) → IsAskingOver plan old new asked asks

-- the members ask what these groups of fields ask, over a plan
pub record AreMadeOver (plan : PlanOf) (old new : List LoadingField) (ps : List PreparedOf)
    (ms : List Member) : Type 0 where
  pub grows : Grows plan old new
  pub makes : Makes plan new ms ps
  pub served : AreServed plan new ps ms

pub record AreMade (old new : List LoadingField) (ps : List PreparedOf)
    (ms : List Member) : Type 0 where
  pub front : take (length old) new ≡ old
  pub over : (plan : PlanOf) → AreMadeOver plan old new ps ms

-- the members are made of what these groups of an object type ask for
abbrev pub AreMadeOf : PlanOf → List ℕ → List GroupOf
    → List LoadingField → List LoadingField → List Member → Type 0
AreMadeOf plan ty gs old new ms = AreMade old new (all_prepared plan ty gs) ms

-- these are the members of a type below a group, where the groups are right
abbrev pub AreKept : List LoadingField → ℕ → List ℕ → List Member → Type 0
AreKept gs group ty ms = (plan : PlanOf) → AreRight plan gs
    → Makes plan gs ms (type_prepared plan (children_at gs group) ty)

-- these are the members of all objects below a group, where the groups are right
pub record IsWhole (plan : PlanOf) (gs : List LoadingField) (children : ChildrenOf)
    (ms : List Member) : Type 0 where
  pub object : is_object_type plan.definitions children.type_name ≡ true
  pub makes : Makes plan gs ms (type_prepared plan children children.type_name)

abbrev pub AreOnly : List LoadingField → ℕ → List Member → Type 0
AreOnly gs group ms = (plan : PlanOf) → AreRight plan gs → IsWhole plan gs (children_at gs group) ms

-- this asks for a value by a group, over each plan by which the group serves it
abbrev pub AsksAt : ValueFrom → ℕ → FieldResolver → Type 0
AsksAt asked number asks = (plan : PlanOf) (gs : List LoadingField)
    → MayServe plan gs number (below_in asked) → IsAskingOver plan gs gs asked asks

-- this asks for a value by a group, or with one more
abbrev pub AsksAgain : ValueFrom → Option ℕ → List LoadingField → List LoadingField
    → FieldResolver → Type 0
AsksAgain asked group old new asks = (plan : PlanOf)
    → IfSome group (λ number. MayServe plan old number (below_in asked))
    → IsAskingOver plan old new asked asks

-- the plan is that one with other variables
abbrev pub IsOtherwise : PlanOf → PlanOf → Type 0
IsOtherwise first plan = plan ≡ with_variables first plan.variables

-- the member asks what this group of fields asks, over a plan
pub record IsMadeOver (plan : PlanOf) (old new : List LoadingField) (p : PreparedOf)
    (m : Member) : Type 0 where
  pub position : member_position m.position ≡ p.position
  pub asks : IsAskingOver plan old new p.asked m.asks

-- The member asks what this group of fields asks, over a plan by which the member before it is served as the same group of fields is with
-- other variables.
abbrev pub IsMadeAgain : PlanOf → List ℕ → GroupOf → Option Member
    → List LoadingField → List LoadingField → Member → Type 0
IsMadeAgain plan ty g before old new m = (first over : PlanOf) → IsOtherwise first plan
    → IfSome before (IsServedBy over old (prepared first ty g))
    → IsMadeOver over old new (prepared plan ty g) m

-- the same with the groups that there are
abbrev pub IsMadeInPlace : PlanOf → List ℕ → GroupOf → Option Member → Member → Type 0
IsMadeInPlace plan ty g before m = (gs : List LoadingField) → IsMadeAgain plan ty g before gs gs m

-- The members ask what these groups of fields ask, over a plan by which the groups of `before` serve what the same groups of fields ask
-- with other variables.
abbrev pub AreMadeAgain : PlanOf → List ℕ → List GroupOf → List Member
    → List LoadingField → List LoadingField → List Member → Type 0
AreMadeAgain plan ty gs before old new ms = (first over : PlanOf) → IsOtherwise first plan
    → AreServed over old (all_prepared first ty gs) before
    → AreMadeOver over old new (all_prepared plan ty gs) ms

-- these groups of fields of a type below a group ask the same over another plan
pub record AsksAlike (over plan : PlanOf) (children : ChildrenOf) (ty : List ℕ)
    (gs : List GroupOf) : Type 0 where
  pub definitions : over.definitions ≡ plan.definitions
  pub same : type_prepared over children ty ≡ all_prepared plan ty gs

-- The groups grow, over each plan that is this one with other variables and leaves out the same.
abbrev pub GrowsAlike : PlanOf → List LoadingField → List LoadingField → Type 0
GrowsAlike plan old new = (vs : List VariableOf) → AgreesOnDirectives plan vs
    → Grows (with_variables plan vs) old new

-- The members of a type below a group. They are kept from then on, unless there are `most` groups.
pub record IsShaped (plan : PlanOf) (most : ℕ) (old new : List LoadingField) (group : ℕ)
    (ty : List ℕ) (ms : List Member) : Type 0 where
  pub grows : Grows plan old new
  pub front : most ≤ length old → take (length old) new ≡ old
  pub makes : AreRight plan old → Makes plan new ms (type_prepared plan (children_at old group) ty)

-- The members of a type below a group were made of these groups of fields, for each plan by which they ask the same there.
abbrev pub MakesShape : PlanOf → ℕ → ℕ → List ℕ → List GroupOf
    → List LoadingField → List LoadingField → List Member → Type 0
MakesShape plan most group ty gs old new ms = (over : PlanOf)
    → AsksAlike over plan (children_at old group) ty gs → IsShaped over most old new group ty ms
