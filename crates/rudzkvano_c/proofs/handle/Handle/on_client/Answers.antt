use Rattle.std.proofs.Common.{refl}
use Rattle.rudzkvano_c.proofs.handle.Handle.on_client.Goals as goal

pub returns-in-Client : goal.returns-in-Client
returns-in-Client g c =
    rw (← c.take.ensures.taken, c.in-Some.is, ← c.deref_mut.ensures.value, c.in-Client.is, c.put.ensures) (record { shown = _; shows = refl; left = _; called = c.act-done.ensures; leaves = refl })
