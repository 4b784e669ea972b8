use Rattle.std.proofs.Common.{sym, arith}
use Rattle.load_memory.specs.Keys.{key_of}
use Rattle.gq_resolve.proofs.Evaluating.{with-past}
use Rattle.gq_resolve.proofs.wanting.want.Goals as goal

pub returns-then-loader-loaders-clause-ok : goal.returns-then-loader-loaders-clause-ok
returns-then-loader-loaders-clause-ok c = sym (with-past c.args.wants.now c.args.loader (key_of c.args.key) (omega arith))
