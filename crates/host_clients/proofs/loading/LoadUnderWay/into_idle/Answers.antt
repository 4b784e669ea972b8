use Rattle.host_clients.proofs.Underway.{given-up-load}
use Rattle.host_clients.proofs.loading.LoadUnderWay.into_idle.Goals as goal

pub returns-clause-stopped : goal.returns-clause-stopped
returns-clause-stopped c = rw (← c.self.view_is) (given-up-load c.self.inside.hand c.idle_of.result c.idle_of.ensures.client c.idle_of.ensures.stopped)
