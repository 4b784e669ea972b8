use Rattle.std.proofs.Common.{refl}
use Rattle.flat_orders.proofs.orders.FlatOrders.copy_to.Goals as goal

pub returns-clause-copied : goal.returns-clause-copied
returns-clause-copied c = rw (c.copy_from_slice.ensures.after, c.deref.ensures.value, c.in_ok-copy_to.ensures.copied, ← c.self.view_is) refl
