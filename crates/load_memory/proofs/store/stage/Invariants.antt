use Rattle.std.proofs.Common.{◌≡◌, ◌++◌, map, drop}
use Rattle.std.specs.Slice.Iter.{iter_rest}
use Rattle.load_memory.specs.Keys.{key_of}
use Rattle.load_memory.specs.Outcomes.{outcome_of}
use Rattle.load_memory.specs.LoaderMemories.{staged_of}
use Rattle.load_memory.specs.Replies.{reply_pairs}
use Rattle.load_memory.proofs.store.stage.Given as goal

abbrev pub invariant-loop-key : goal.invariant-loop-key
invariant-loop-key l =
    map staged_of l.pairs.items ++ reply_pairs l.mode l.reply.loader (map key_of (drop l.key-index l.asked)) (map outcome_of (iter_rest l.outcomes))
    ≡ map staged_of l.fn.pairs.items ++ reply_pairs l.mode l.reply.loader (map key_of l.reply.keys) (map outcome_of l.reply.outcomes.items)
