use Rattle.std.proofs.Common.{refl, sym}
use Rattle.host_clients.proofs.client.HostClient.idle_mut.Goals as goal

pub returns-in-Idle : goal.returns-in-Idle
returns-in-Idle c = rw c.settle.ensures.client (refl, record { lends = tt; client = sym (rw c.settle.ensures.client at c.idle.view_is); idle = sym c.if-is_busy.ensures; busy = tt; fault = tt })
