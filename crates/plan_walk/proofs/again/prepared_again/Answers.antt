use Rattle.std.proofs.Common.{subst, ℕ, Option}
use Rattle.std.specs.Option.{option_copied}
use Rattle.gq_check.specs.Plans.{plan_of}
use Rattle.plan_program.specs.ObjectTypes.{name_in}
use Rattle.plan_program.specs.Prepared.{value_from_seen, prepared_seen}
use Rattle.plan_walk.specs.Groups.{AsksAgain}
use Rattle.plan_walk.proofs.MadeAgain.{prepared-made}
use Rattle.plan_walk.proofs.again.prepared_again.Goals as goal

pub returns : goal.returns
returns c =
    let old = c.args.groups.now.items in
    let new = c.asks_again.new.groups.items in
    prepared-made (plan_of c.args.plan.now) (name_in c.args.ty.now) c.args.fields.now old new (prepared_seen c.in_ok-prepared.prepared) (option_copied c.args.before) _ c.in_ok-prepared.ensures c.position_of-position.ensures
    (subst (λ (group : Option ℕ). AsksAgain (value_from_seen c.in_ok-prepared.prepared.asked) group old new c.in_ok-asks.asks) c.group_before-had.ensures c.in_ok-asks.ensures)
