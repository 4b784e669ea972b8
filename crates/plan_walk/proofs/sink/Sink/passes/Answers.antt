use Rattle.execution.specs.Program.{End, With}
use Rattle.plan_walk.proofs.sink.Sink.passes.Goals as goal

pub returns-clause-passed : goal.returns-clause-passed
returns-clause-passed g c v kind End R none = g.met.Self.Sink.none v c.args.self.now
returns-clause-passed g c v kind (With position p rest) R none = absurd (cc none)
