use Rattle.std.proofs.Common.{◌≡◌, ◌+◌, drop, option_map}
use Rattle.example_totals.specs.Totals.{sum_of}
use Rattle.example_totals.proofs.totals.sum.Given as goal

-- the sum with the orders that are left is the sum of all
abbrev pub invariant-loop-order : goal.invariant-loop-order
invariant-loop-order l = option_map (λ n. l.sum + n) (sum_of (drop l.order-index l.orders)) ≡ sum_of l.orders
