use Rattle.merging_fields.specs.Orders.{IsPart}
use Rattle.merging_fields.proofs.ranks.take_these.Given as goal

abbrev pub invariant-loop-fragment : goal.invariant-loop-fragment
invariant-loop-fragment l = IsPart l.graph l.order.items l.taken.items
