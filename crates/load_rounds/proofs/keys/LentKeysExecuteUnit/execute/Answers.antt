use Rattle.std.proofs.Common.{◌+◌, arith, map}
use Rattle.load_memory.specs.Keys.{key_of}
use Rattle.load_rounds.proofs.Reading.{reading-within}
use Rattle.load_rounds.proofs.keys.LentKeysExecuteUnit.execute.Goals as goal

pub returns-clause-within : goal.returns-clause-within
returns-clause-within c = reading-within (c.args.self.now.loader + 1) c.args.self.now.loader (map key_of c.args.self.now.keys.now) (omega arith)
