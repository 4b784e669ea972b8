use Rattle.std.proofs.Common.{◌≡◌, ◌∙◌, ◌++◌, ◌∷◌, ◌+◌, [], ℕ, List, take, sym, ap, subst, arith}
use Rattle.std.proofs.lemmas.List.{take_more, take_all}
use Rattle.gq_check.specs.Plans.{plan_of}
use Rattle.plan_program.specs.ObjectTypes.{name_in}
use Rattle.plan_program.specs.Prepared.{prepared_seen}
use Rattle.plan_program.specs.Seen.{groups_of}
use Rattle.plan_program.specs.declared.group.Group.{Group}
use Rattle.plan_walk.specs.Groups.{AreMadeOf}
use Rattle.plan_walk.proofs.Grouping.{made-none, made-of-more}
use Rattle.plan_walk.proofs.loading_fields.members_of.Goals as goal

pub loop-group-init : goal.loop-group-init
loop-group-init c = rw c.in_ok-members.ensures.items (made-none c.args.groups.now.items)

pub loop-group-preserved : goal.loop-group-preserved
loop-group-preserved c =
    let gs : List Group = c.deref-group-items.result.now in
    let i : ℕ = c.loop-group.group-index in
    let g : Group = c.group-item.result in
    let more : take (i + 1) gs ≡ take i gs ++ g ∷ [] = take_more gs i g (omega (arith, c.loop-group-test.true)) ∙ ap (λ (x : Group). take i gs ++ x ∷ []) (sym c.group-item.is) in
    rw (c.in_ok-push.ensures.items, more)
    (made-of-more (plan_of c.args.walk.now.plan.now) (name_in c.args.ty.now) c.args.groups.now.items c.loop-group.groups.items c.asks_of.new.groups.items (take i gs) g (prepared_seen c.in_ok-prepared.prepared) c.loop-group.members.items _ c.loop-group.invariant c.in_ok-prepared.ensures c.in_ok-asks.ensures c.position_of-position.ensures)

pub returns : goal.returns
returns c =
    subst (λ (gs : List Group). AreMadeOf (plan_of c.args.walk.now.plan.now) (name_in c.args.ty.now) (groups_of gs) c.args.groups.now.items c.loop-group.groups.items c.loop-group.members.items)
    (take_all c.loop-group.group-index c.deref-group-items.result.now c.loop-group-test.false ∙ c.deref-group-items.ensures.value) c.loop-group.invariant
