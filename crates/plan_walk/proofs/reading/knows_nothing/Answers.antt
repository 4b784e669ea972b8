use Rattle.plan_walk.proofs.Lookups.{lookup-nothing}
use Rattle.plan_walk.proofs.reading.knows_nothing.Goals as goal

pub returns-then-is_empty-clause-nothing : goal.returns-then-is_empty-clause-nothing
returns-then-is_empty-clause-nothing c = λ yes key. lookup-nothing c.args.memory.now (record { loader = c.args.loader; key = key }) (c.is_empty.ensures.0 c.if-is_empty.true)
