use Rattle.std.proofs.Common.{◌∙◌, length, sym, ap}
use Rattle.std.proofs.lemmas.List.{length-map}
use Rattle.flat_orders.specs.Orders.{paired_orders, keys_of}
use Rattle.flat_orders.proofs.Ordering.{paired-keys}
use Rattle.flat_orders.proofs.orders.FlatOrders.sizes.Goals as goal

pub returns-clause-orders : goal.returns-clause-orders
returns-clause-orders c =
    let i = c.self.inside in
    rw (← c.self.view_is) (c.sizes.ensures.lists ∙ sym (ap length (paired-keys i.loaders.items i.keys c.self.invariant)) ∙ length-map (paired_orders i.loaders.items i.keys) keys_of)

pub returns-clause-keys : goal.returns-clause-keys
returns-clause-keys c = rw (← c.self.view_is, paired-keys _ _ c.self.invariant) c.sizes.ensures.keys

pub returns-clause-texts : goal.returns-clause-texts
returns-clause-texts c = rw (← c.self.view_is, paired-keys _ _ c.self.invariant) c.sizes.ensures.texts

pub returns-clause-bytes : goal.returns-clause-bytes
returns-clause-bytes c = rw (← c.self.view_is, paired-keys _ _ c.self.invariant) c.sizes.ensures.bytes
