use Rattle.std.proofs.Common.{◌≡◌, map, take}
use Rattle.rounds_by_hand.specs.Pending.{order_in}
use Rattle.host_clients.proofs.under_way.write_orders.Given as goal

abbrev pub invariant-loop-one : goal.invariant-loop-one
invariant-loop-one l = l.orders ≡ map order_in (take l.one-index l.pending)
