use Rattle.std.proofs.Common.{length, arith}
use Rattle.merging_pairs.specs.Numbered.{fields_of}
use Rattle.merging_pairs.specs.Sets.{has}
use Rattle.merging_pairs.proofs.ClashLaws.{tested-key}
use Rattle.merging_pairs.proofs.keys.failing_keys.Goals as goal

pub returns : goal.returns
returns c = λ rows ms below is f h.
    tested-key (fields_of c.args.fields.now).one_key rows ms c.args.reached.now (length c.args.fields.now) f (has c.loop-f.keys f) below is (c.loop-f.invariant.tested f (omega (arith, h, c.loop-f-test.false)))
