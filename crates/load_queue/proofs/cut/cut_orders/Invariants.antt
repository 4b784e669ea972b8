use Rattle.std.proofs.Common.{◌≡◌, ◌++◌, map, length}
use Rattle.load_memory.specs.Keys.{key_of}
use Rattle.load_queue.specs.Orders.{cut_of}
use Rattle.load_queue.proofs.PieceLaws.{left}
use Rattle.load_queue.proofs.cut.cut_orders.Given as goal

abbrev pub invariant-loop-rest : goal.invariant-loop-rest
invariant-loop-rest l = l.orders.items ++ map (cut_of l.identity l.loader) (left key_of l.most l.rest) ≡ map (cut_of l.identity l.loader) (left key_of l.most l.fn.keys.items)

abbrev pub decreases-loop-rest : goal.decreases-loop-rest
decreases-loop-rest l = length l.rest
