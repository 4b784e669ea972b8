use Rattle.std.proofs.Common.{refl}
use Rattle.host_clients.proofs.under_way.UnderWay.answered.Goals as goal

pub invariant_of-result : goal.invariant_of-result
invariant_of-result c = rw c.into_client-client.ensures.client (rw (← c.self.view_is) at c.requires)

pub returns : goal.returns
returns c = rw (← c.self.view_is, c.into_client-client.ensures.client) refl
