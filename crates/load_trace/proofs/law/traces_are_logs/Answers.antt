use Rattle.load_trace.proofs.Logs.{tells-log}
use Rattle.load_trace.proofs.law.traces_are_logs.Goals as goal

pub returns : goal.returns
returns g c = λ session new p log within made. tells-log g.S.LocalSource.may_tell session new p log within made
