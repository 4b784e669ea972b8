use Rattle.merging_pairs.proofs.ClashLaws.{tested-clash}
use Rattle.merging_pairs.proofs.sets.ReachedFields.has_clash.Goals as goal

pub returns : goal.returns
returns c = λ rows ms is. tested-clash rows ms c.args.self.now c.meets.result is c.meets.ensures
