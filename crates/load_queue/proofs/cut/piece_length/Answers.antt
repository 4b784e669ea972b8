use Rattle.std.proofs.Common.{arith}
use Rattle.load_memory.specs.Keys.{key_of}
use Rattle.load_queue.proofs.PieceLaws.{batches-unlimited}
use Rattle.load_queue.proofs.cut.piece_length.Goals as goal

pub returns-in-None-clause-pieces : goal.returns-in-None-clause-pieces
returns-in-None-clause-pieces c = rw c.in-None.is (batches-unlimited key_of c.max.result c.args.keys.now (omega (arith, c.max.ensures)))
