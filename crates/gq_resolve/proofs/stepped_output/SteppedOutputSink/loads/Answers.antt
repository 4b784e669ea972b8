use Rattle.std.proofs.Common.{arith, refl}
use Rattle.gq_resolve.specs.Stepped.{output_of}
use Rattle.gq_resolve.proofs.Putting.{reads-written}
use Rattle.gq_resolve.proofs.stepped_output.SteppedOutputSink.loads.Goals as goal

pub returns : goal.returns
returns c = λ v. reads-written c.args.count (output_of c.args.self.now) _ refl (omega (arith, c.saturating_add-self.ensures))
