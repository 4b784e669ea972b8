use Rattle.std.proofs.Common.{arith, refl}
use Rattle.gq_resolve.proofs.Putting.{reads-put}
use Rattle.gq_resolve.proofs.output.OutputSink.loads.Goals as goal

pub returns : goal.returns
returns c = λ v. reads-put v c.args.count c.args.self.now _ refl refl (omega (arith, c.saturating_add-self.ensures))
