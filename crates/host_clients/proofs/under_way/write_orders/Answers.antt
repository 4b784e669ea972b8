use Rattle.std.proofs.lemmas.List.{take_all}
use Rattle.rounds_by_hand.specs.Pending.{order_in}
use Rattle.host_clients.proofs.Lists.{map-next}
use Rattle.host_clients.proofs.under_way.write_orders.Goals as goal

pub loop-one-preserved : goal.loop-one-preserved
loop-one-preserved c =
    rw (c.in_ok-write_order.ensures.written, c.loop-one.invariant) (map-next c.args.pending.now c.loop-one.one-index c.one-item.result c.loop-one-test.true c.one-item.is order_in)

pub returns-clause-written : goal.returns-clause-written
returns-clause-written c = rw (← take_all c.loop-one.one-index c.args.pending.now c.loop-one-test.false) c.loop-one.invariant
