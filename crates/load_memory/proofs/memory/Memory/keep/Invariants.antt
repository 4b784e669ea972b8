use Rattle.std.proofs.Common.{◌≡◌, map, take}
use Rattle.load_memory.specs.LoaderMemories.{staged_of}
use Rattle.load_memory.specs.Replies.{pairs_of, reply_of}
use Rattle.load_memory.proofs.memory.Memory.keep.Given as goal

abbrev pub invariant-loop-reply : goal.invariant-loop-reply
invariant-loop-reply l = map staged_of l.pairs.items ≡ pairs_of l.fn.self.modes (map reply_of (take l.reply-index l.replies))
