use Rattle.merging_pairs.proofs.Bits.{has-none}
use Rattle.merging_pairs.proofs.field_set.FieldSet.new.Goals as goal

pub returns : goal.returns
returns c = has-none
