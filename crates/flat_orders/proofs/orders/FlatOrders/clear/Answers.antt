use Rattle.std.proofs.Common.{refl}
use Rattle.flat_orders.specs.Orders.{paired_orders}
use Rattle.flat_orders.proofs.orders.FlatOrders.clear.Goals as goal

pub returns : goal.returns
unfolding paired_orders
returns c = rw c.clear.ensures.items refl
