use Rattle.std.proofs.Common.{map}
use Rattle.load_memory.specs.Keys.{key_of}
use Rattle.load_queue.proofs.wants.WantedKeys.new.Goals as goal

pub invariant_of-result : goal.invariant_of-result
invariant_of-result c = c.new-2.ensures c.args.mode (map key_of c.new.result.items)
