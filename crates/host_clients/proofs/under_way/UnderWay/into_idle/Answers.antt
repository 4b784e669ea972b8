use Rattle.host_clients.proofs.Underway.{given-up}
use Rattle.host_clients.proofs.under_way.UnderWay.into_idle.Goals as goal

pub returns-clause-stopped : goal.returns-clause-stopped
returns-clause-stopped c = rw (← c.self.view_is) (given-up (record { hand = c.self.inside.hand; server = c.self.inside.queries.value; asked = c.self.inside.note.asked }) c.into_client-client.result c.into_client-client.ensures.client c.into_client-client.ensures.stopped)
