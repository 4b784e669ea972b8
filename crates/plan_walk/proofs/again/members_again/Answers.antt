use Rattle.std.proofs.Common.{◌≡◌, ◌<◌, ◌∙◌, ℕ, List, [], ◌∷◌, length, length-append, ap, subst, Option, arith, rules}
use Rattle.std.specs.List.{slice_get}
use Rattle.std.specs.Option.{option_copied}
use Rattle.gq_check.specs.Plans.{plan_of}
use Rattle.plan_program.specs.ObjectTypes.{name_in}
use Rattle.plan_program.specs.Seen.{group_of}
use Rattle.plan_walk.specs.Groups.{IsMadeAgain}
use Rattle.plan_walk.specs.declared.loading_fields.LoadingField.{LoadingField}
use Rattle.plan_walk.specs.declared.loading_fields.Member.{Member}
use Rattle.plan_walk.proofs.MadeAgain.{again-more}
use Rattle.plan_walk.proofs.again.members_again.Goals as goal

pub loop-group-preserved : goal.loop-group-preserved
loop-group-preserved c =
    let i : ℕ = c.loop-group.group-index in
    let mid : List LoadingField = c.loop-group.groups.items in
    let new : List LoadingField = c.member_again.new.groups.items in
    let ms : List Member = c.loop-group.members.items in
    let m : Member = c.in_ok-member.member in
    let lt : i < length c.deref-group-items.result.now = omega (arith, c.loop-group-test.true) in
    let counted : c.len-in-loop-group.result ≡ i = search rules ∙ c.loop-group.invariant.0 in
    let had : option_copied c.member_at-had.result ≡ slice_get c.args.before.now i = c.member_at-had.ensures ∙ ap (slice_get c.args.before.now) counted in
    let again : IsMadeAgain (plan_of c.args.plan.now) (name_in c.args.ty.now) (group_of c.group-item.result) (slice_get c.args.before.now i) mid new m =
    subst (λ (before : Option Member). IsMadeAgain (plan_of c.args.plan.now) (name_in c.args.ty.now) (group_of c.group-item.result) before mid new m) had c.in_ok-member.ensures in
    rw c.in_ok-push.ensures.items (
      omega (arith, length-append ms (m ∷ []), c.loop-group.invariant.0),
      λ first over other served.
          again-more first (plan_of c.args.plan.now) over (name_in c.args.ty.now) c.args.groups.now.items mid new c.deref-group-items.result.now i c.group-item.result c.args.before.now ms m lt c.group-item.is other served (c.loop-group.invariant.1 first over other served) again,
    )
