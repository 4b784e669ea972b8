use Rattle.merging_fields.proofs.Acyclic.{free-of, levels-same}
use Rattle.merging_fields.proofs.law.all_levels_are_counted.Goals as goal

pub returns : goal.returns
returns c = λ defs d none. levels-same defs d (free-of defs d none)
