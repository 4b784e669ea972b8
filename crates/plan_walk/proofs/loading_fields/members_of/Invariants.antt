use Rattle.std.proofs.Common.{take}
use Rattle.gq_check.specs.Plans.{plan_of}
use Rattle.plan_program.specs.ObjectTypes.{name_in}
use Rattle.plan_program.specs.Seen.{groups_of}
use Rattle.plan_walk.specs.Groups.{AreMadeOf}
use Rattle.plan_walk.proofs.loading_fields.members_of.Given as goal

abbrev pub invariant-loop-group : goal.invariant-loop-group
invariant-loop-group l = AreMadeOf (plan_of l.fn.walk.plan.now) (name_in l.fn.ty) (groups_of (take l.group-index l.group-items)) l.fn.groups.items l.groups.items l.members.items
