use Rattle.std.proofs.Common.{◌≡◌, map, take}
use Rattle.load_memory.specs.LoaderMemories.{staged_of}
use Rattle.load_memory.specs.Replies.{pairs_of}
use Rattle.load_memory.specs.Shelves.{shown}
use Rattle.load_memory.proofs.memory.Memory.index.Given as goal

abbrev pub invariant-loop-receipt : goal.invariant-loop-receipt
invariant-loop-receipt l = map staged_of l.pairs.items ≡ pairs_of l.fn.self.modes (map shown (take l.receipt-index l.receipts))
