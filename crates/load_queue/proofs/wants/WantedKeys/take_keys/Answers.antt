use Rattle.std.proofs.Common.{map}
use Rattle.load_memory.specs.Keys.{key_of}
use Rattle.load_queue.proofs.wants.WantedKeys.take_keys.Goals as goal

pub invariant_of-self : goal.invariant_of-self
invariant_of-self c =
    let mode = c.self.inside.mode in
    rw (c.replace.ensures.after, c.new.ensures.items) (c.forget_seen.ensures mode mode (map key_of c.self.inside.keys.items) c.self.invariant)
