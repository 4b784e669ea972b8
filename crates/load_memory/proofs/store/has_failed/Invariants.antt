use Rattle.std.proofs.Common.{map, take}
use Rattle.load_memory.specs.LoaderMemories.{staged_of, AreUnfailed}
use Rattle.load_memory.proofs.store.has_failed.Given as goal

abbrev pub invariant-loop-pair : goal.invariant-loop-pair
invariant-loop-pair l = AreUnfailed (map staged_of (take l.pair-index l.pairs))
