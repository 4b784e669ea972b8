use Rattle.std.proofs.Common.{refl}
use Rattle.std.proofs.lemmas.Result.{on_ok_weaker}
use Rattle.load_memory.specs.Keys.{borrowed_of}
use Rattle.gq_resolve.proofs.Blocking.{noted-put}
use Rattle.gq_resolve.proofs.output.OutputSink.wait.Goals as goal

pub returns : goal.returns
returns c = on_ok_weaker c.note.result (λ noted v within. noted-put v c.args.onward c.args.loader (borrowed_of c.args.key) c.args.self.now _ within refl noted) c.note.ensures
