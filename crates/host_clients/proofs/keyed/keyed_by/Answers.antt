use Rattle.std.proofs.Common.{ap}
use Rattle.host_clients.specs.Lines.{by_in, keyed_by}
use Rattle.host_clients.proofs.keyed.keyed_by.Goals as goal

pub returns-in-Some : goal.returns-in-Some
returns-in-Some c = rw (c.columns_of.ensures, c.mode_of.ensures) (ap (λ line. keyed_by (by_in line)) c.in-Some.ensures)

pub returns-in-None : goal.returns-in-None
returns-in-None c = ap (λ line. keyed_by (by_in line)) c.in-None.ensures
