use Rattle.std.proofs.Common.{refl}
use Rattle.flat_orders.specs.Orders.{paired_orders}
use Rattle.flat_orders.proofs.Ordering.{paired-more}
use Rattle.flat_orders.proofs.orders.FlatOrders.push.Goals as goal

pub returns-in-Ok-clause-pushed : goal.returns-in-Ok-clause-pushed
returns-in-Ok-clause-pushed c = rw (c.in-Ok.ensures.loaders, c.in-Ok.ensures.lists, ← c.self.view_is) (paired-more _ _ _ _ c.self.invariant)

pub returns-in-Err-clause-cleared : goal.returns-in-Err-clause-cleared
unfolding paired_orders
returns-in-Err-clause-cleared c = rw c.clear.ensures.items refl
