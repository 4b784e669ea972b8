use Rattle.std.proofs.Common.{◌≡◌, ◌<◌, ℕ, ◌++◌, take, length, map, ap, ◌∙◌, arith}
use Rattle.std.proofs.lemmas.List.{take_more, take_all, map-append, append-nil}
use Rattle.load_memory.specs.Pairs.{PairOf}
use Rattle.load_memory.specs.LoaderMemories.{staged_of}
use Rattle.load_memory.specs.Replies.{ReplyOf, reply_of, reply_pairs}
use Rattle.load_memory.proofs.ReplyPairs.{mode-at, pairs_of-append, pairs-below, All-of_map, All-to_map}
use Rattle.load_memory.proofs.memory.Memory.keep.Goals as goal

pub loop-reply-preserved : goal.loop-reply-preserved
loop-reply-preserved c =
    let modes = c.args.self.now.modes in
    let i = c.loop-reply.reply-index in
    let r = c.reply-item.result in
    let mode = mode-at modes (reply_of r).loader c.mode.result c.mode.ensures in
    let next = take_more c.args.replies.now i r c.loop-reply-test.true in
    rw (next, ← c.reply-item.is, map-append reply_of, pairs_of-append, mode, append-nil) (c.in_ok-stage.ensures ∙ ap (λ ps. ps ++ reply_pairs c.mode.result (reply_of r).loader (reply_of r).keys (reply_of r).outcomes) c.loop-reply.invariant)

pub store-requires : goal.store-requires
store-requires c =
    let all : take c.loop-reply.reply-index c.args.replies.now ≡ c.args.replies.now = take_all c.loop-reply.reply-index c.args.replies.now (omega arith) in
    let n : ℕ = length c.args.self.now.modes in
    let pairs = rw all at c.loop-reply.invariant in
    All-of_map staged_of (λ (p : PairOf). p.loader < n) c.loop-reply.pairs.items (rw pairs (pairs-below c.args.self.now.modes n (map reply_of c.args.replies.now) (All-to_map reply_of (λ (r : ReplyOf). r.loader < n) c.args.replies.now c.requires)))

pub returns-clause-pairs : goal.returns-clause-pairs
returns-clause-pairs c =
    let all : take c.loop-reply.reply-index c.args.replies.now ≡ c.args.replies.now = take_all c.loop-reply.reply-index c.args.replies.now (omega arith) in
    let pairs = rw all at c.loop-reply.invariant in
    rw (← pairs) c.store.ensures.pairs
