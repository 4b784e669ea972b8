use Rattle.std.proofs.Common.{◌≡◌, ◌++◌, map, take, drop, length}
use Rattle.load_queue.specs.Loaders.{marked}
use Rattle.load_queue.specs.Logs.{asked_of}
use Rattle.load_queue.proofs.loader.mark.Given as goal

abbrev pub invariant-loop-index : goal.invariant-loop-index
invariant-loop-index l = (length l.log.items ≡ length l.fn.log.items) × (map asked_of l.log.items ≡ map (marked l.round) (take l.index (map asked_of l.fn.log.items)) ++ drop l.index (map asked_of l.fn.log.items))
