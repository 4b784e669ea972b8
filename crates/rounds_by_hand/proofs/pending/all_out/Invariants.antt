use Rattle.std.proofs.Common.{◌≡◌, ◌++◌, map}
use Rattle.rounds_by_hand.specs.Pending.{still_out}
use Rattle.rounds_by_hand.proofs.pending.all_out.Given as goal

abbrev pub invariant-loop-order : goal.invariant-loop-order
invariant-loop-order l = l.pending.items ++ map still_out l.order-iterator.rest.items ≡ map still_out l.fn.orders.items
