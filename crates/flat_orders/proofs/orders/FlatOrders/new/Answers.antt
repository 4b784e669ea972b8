use Rattle.std.proofs.Common.{refl}
use Rattle.flat_orders.specs.Orders.{paired_orders}
use Rattle.flat_orders.proofs.orders.FlatOrders.new.Goals as goal

pub invariant_of-result : goal.invariant_of-result
invariant_of-result c = rw (c.new.ensures.items, c.new-2.ensures) refl

pub returns : goal.returns
unfolding paired_orders
returns c = rw c.new.ensures.items refl
