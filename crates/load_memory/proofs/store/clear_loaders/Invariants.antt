use Rattle.std.proofs.Common.{◌≡◌, length}
use Rattle.load_memory.proofs.LoaderMemoryLaws.{AreEmptyBelow}
use Rattle.load_memory.proofs.store.clear_loaders.Given as goal

abbrev pub invariant-loop-index : goal.invariant-loop-index
invariant-loop-index l = record { lined_up : length l.parts.items ≡ length l.fn.parts.items; empty : AreEmptyBelow l.index l.parts.items }
