use Rattle.std.proofs.Common.{◌≡◌, ◌<◌, ◌++◌, length, map}
use Rattle.std.specs.Prelude.{All}
use Rattle.load_memory.specs.LoaderMemories.{staged_of}
use Rattle.load_memory.specs.Replies.{pairs_of, reply_of}
use Rattle.load_memory.specs.declared.reply.Reply.{Reply}
use Rattle.load_memory.proofs.memory.Memory.keep_owned.Given as goal

abbrev pub invariant-loop-owned : goal.invariant-loop-owned
invariant-loop-owned l = record {
  pairs : map staged_of l.pairs.items ++ pairs_of l.fn.self.modes (map reply_of l.owned-iterator.rest.items) ≡ pairs_of l.fn.self.modes (map reply_of l.fn.replies.items);
  loaders : All (λ (r : Reply). r.loader < length l.fn.self.modes) l.owned-iterator.rest.items;
}
