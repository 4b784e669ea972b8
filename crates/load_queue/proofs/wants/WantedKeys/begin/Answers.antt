use Rattle.std.proofs.Common.{map}
use Rattle.load_memory.specs.Keys.{key_of}
use Rattle.load_queue.proofs.wants.WantedKeys.begin.Goals as goal

pub invariant_of-self : goal.invariant_of-self
invariant_of-self c = rw c.clear.ensures.items (c.forget_seen.ensures c.self.inside.mode c.args.mode (map key_of c.self.inside.keys.items) c.self.invariant)
