use Rattle.std.proofs.Common.{◌+◌, arith}
use Rattle.load_rounds.proofs.Reading.{reading-within}
use Rattle.load_rounds.proofs.keys.KeysToLoadExecuteUnit.execute.Goals as goal

pub returns-clause-within : goal.returns-clause-within
returns-clause-within c = reading-within (c.args.self.now.loader + 1) c.args.self.now.loader c.args.self.now.keys (omega arith)
