use Rattle.std.proofs.Common.{◌≡◌, ◌++◌, map, drop}
use Rattle.load_memory.specs.Keys.{key_of}
use Rattle.load_memory.specs.Outcomes.{outcome_of}
use Rattle.load_memory.specs.LoaderMemories.{staged_of}
use Rattle.load_memory.specs.Replies.{reply_pairs}
use Rattle.load_memory.proofs.store.stage_owned.Given as goal

abbrev pub invariant-loop-key : goal.invariant-loop-key
invariant-loop-key l =
    map staged_of l.pairs.items ++ reply_pairs l.mode l.loader (map key_of (drop l.key-index l.asked)) (map outcome_of l.outcomes.rest.items)
    ≡ map staged_of l.fn.pairs.items ++ reply_pairs l.mode l.fn.reply.loader (map key_of l.fn.reply.keys) (map outcome_of l.fn.reply.outcomes.items)
