use Rattle.std.proofs.Common.{◌≡◌, length, take}
use Rattle.gq_check.specs.Plans.{PlanOf, plan_of}
use Rattle.plan_program.specs.FieldValues.{all_prepared}
use Rattle.plan_program.specs.ObjectTypes.{name_in}
use Rattle.plan_program.specs.Seen.{groups_of}
use Rattle.plan_walk.specs.Groups.{IsOtherwise, AreServed, AreMadeOver}
use Rattle.plan_walk.proofs.again.members_again.Given as goal

abbrev pub invariant-loop-group : goal.invariant-loop-group
invariant-loop-group l = (length l.members.items ≡ l.group-index)
    × ((first over : PlanOf) → IsOtherwise first (plan_of l.fn.plan) → AreServed over l.fn.groups.items (all_prepared first (name_in l.fn.ty) (groups_of l.group-items)) l.fn.before
    → AreMadeOver over l.fn.groups.items l.groups.items (all_prepared (plan_of l.fn.plan) (name_in l.fn.ty) (groups_of (take l.group-index l.group-items))) l.members.items)
