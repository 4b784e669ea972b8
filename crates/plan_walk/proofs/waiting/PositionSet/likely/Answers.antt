use Rattle.plan_walk.proofs.Noting.{stands-at}
use Rattle.plan_walk.proofs.waiting.PositionSet.likely.Goals as goal

pub returns : goal.returns
returns c = stands-at c.args.self.now.positions.keys _ c.get_index.result c.get_index.ensures.key
