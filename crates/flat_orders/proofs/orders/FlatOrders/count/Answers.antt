use Rattle.std.proofs.Common.{◌∙◌}
use Rattle.flat_orders.specs.Orders.{paired_orders}
use Rattle.flat_orders.proofs.Ordering.{count-of, paired-keys}
use Rattle.flat_orders.proofs.orders.FlatOrders.count.Goals as goal

pub returns : goal.returns
returns c =
    let i = c.self.inside in
    rw (← c.self.view_is) (c.count.ensures ∙ count-of (paired_orders i.loaders.items i.keys) i.keys c.args.number (paired-keys i.loaders.items i.keys c.self.invariant))
