use Rattle.std.proofs.Common.{refl}
use Rattle.host_clients.proofs.under_way.give_up.Goals as goal

pub returns-clause-none : goal.returns-clause-none
returns-clause-none c = rw (c.clear.ensures, c.give_up.ensures.out) refl
