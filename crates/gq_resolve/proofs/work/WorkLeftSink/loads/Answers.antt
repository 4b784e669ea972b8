use Rattle.gq_resolve.proofs.Putting.{reads-taken}
use Rattle.gq_resolve.proofs.work.WorkLeftSink.loads.Goals as goal

pub returns : goal.returns
returns c = λ v. reads-taken c.args._count c.args.self.now.left
