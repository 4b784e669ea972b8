use Rattle.plan_walk.proofs.Noting.{inserted}
use Rattle.plan_walk.proofs.waiting.PositionSet.add.Goals as goal

pub returns-then-is_new-clause-added : goal.returns-then-is_new-clause-added
returns-then-is_new-clause-added c = rw (c.keep_place.ensures, c.in_ok-place.ensures.keys) (inserted c.args.position c.args.self.now.positions.keys)
