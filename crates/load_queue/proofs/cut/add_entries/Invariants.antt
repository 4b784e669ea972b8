use Rattle.std.proofs.Common.{◌≡◌, ◌++◌, map, take, length}
use Rattle.load_queue.specs.Loaders.{entered}
use Rattle.load_queue.specs.Logs.{asked_of}
use Rattle.load_queue.specs.Orders.{CutOf}
use Rattle.load_queue.proofs.cut.add_entries.Given as goal

abbrev pub invariant-loop-order : goal.invariant-loop-order
invariant-loop-order l = record {
  entered : map asked_of l.log.items ≡ map asked_of l.fn.log.items ++ map (entered l.round) (map (λ (o : CutOf). o.keys) (take l.order-index l.orders));
  earlier : take (length l.fn.log.items) l.log.items ≡ l.fn.log.items;
}
