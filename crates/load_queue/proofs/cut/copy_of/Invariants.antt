use Rattle.std.proofs.Common.{◌≡◌, map, take}
use Rattle.load_memory.specs.Keys.{key_of}
use Rattle.load_queue.proofs.cut.copy_of.Given as goal

abbrev pub invariant-loop-key : goal.invariant-loop-key
invariant-loop-key l = map key_of l.copy.items ≡ map key_of (take l.key-index l.keys)
