use Rattle.std.specs.Prelude.{IfSome, Option, ℕ}
use Rattle.std.proofs.Common.{subst}
use Rattle.plan_program.specs.Prepared.{value_from_seen}
use Rattle.plan_program.specs.RowUses.{below_in}
use Rattle.plan_walk.specs.Groups.{MayServe}
use Rattle.plan_walk.proofs.again.asks_again.Goals as goal

pub returns-in-Some : goal.returns-in-Some
returns-in-Some c = λ plan may.
    c.asks_at.ensures plan c.args.groups.now.items (subst (λ (group : Option ℕ). IfSome group (λ number. MayServe plan c.args.groups.now.items number (below_in (value_from_seen c.args.asked)))) c.in-Some.is may)

pub returns-in_ok-asks_of-in-None : goal.returns-in_ok-asks_of-in-None
returns-in_ok-asks_of-in-None c = λ plan may. c.in_ok-asks_of-in-None.ensures.over plan
