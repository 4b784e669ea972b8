-- Definitions of what contracts see of a position.
use Rattle.std.specs.Prelude.{ℕ, Bool, false, true, Some}
use Rattle.execution.specs.Program as program
use Rattle.plan_walk.specs.Puts.{OnwardOf}
use Rattle.plan_walk.specs.declared.positions.PositionKind as rust-kind
use Rattle.plan_walk.specs.declared.positions.PositionKind.TheVariants as kind
use Rattle.plan_walk.specs.declared.positions.Nullability as rust-nullability
use Rattle.plan_walk.specs.declared.positions.Nullability.TheVariants as nullability
use Rattle.plan_walk.specs.declared.positions.MemberPosition as rust-member
use Rattle.plan_walk.specs.declared.positions.Items as rust-items
use Rattle.plan_walk.specs.declared.positions.Onward as rust-onward

abbrev pub kind_of : rust-kind.PositionKind → program.Kind
kind_of kind.List = program.ListOf
kind_of kind.Object = program.ObjectOf

-- a null is an error there
abbrev pub is_non_null : rust-nullability.Nullability → Bool
is_non_null nullability.Nullable = false
is_non_null nullability.NonNull = true

abbrev pub member_position : rust-member.MemberPosition → program.FieldPosition
member_position s =
    record { part = program.Key s.key; non_null = is_non_null s.nullability; place = s.place }

abbrev pub onward_of : rust-onward.Onward → OnwardOf
onward_of o = record { group = o.group; later = o.later; levels = o.levels }

-- that it goes on so after a later load of a `via`, after which `left` loaders come
abbrev pub later_of : ℕ → OnwardOf → OnwardOf
later_of left o = record { group = o.group; later = Some left; levels = o.levels }

-- the item of a number, from 0
abbrev pub item_position : rust-items.Items → ℕ → program.FieldPosition
item_position items n =
    record { part = program.Item n; non_null = is_non_null items.nullability; place = items.place }
