use Rattle.merging_pairs.proofs.Bits.{has-test}
use Rattle.merging_pairs.proofs.field_set.has_bit.Goals as goal

pub returns : goal.returns
returns c = has-test c.args.words.now c.args.i
