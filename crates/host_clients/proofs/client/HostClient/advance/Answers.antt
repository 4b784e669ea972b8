use Rattle.host_clients.proofs.Underway.{can-end, steps-on}
use Rattle.host_clients.proofs.client.HostClient.advance.Goals as goal

pub end-requires : goal.end-requires
end-requires c = can-end _ _ _ c.advance-did.ensures

pub returns-in-Asked : goal.returns-in-Asked
returns-in-Asked c = rw c.in-Asked.is (steps-on _ _ _ _ _ c.advance-did.ensures c.end.ensures)
