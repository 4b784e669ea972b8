use Rattle.std.proofs.Common.{List, ◌≡◌, ◌<◌, ℕ, ◌++◌, [], take, length, map, ap, ◌∙◌, arith}
use Rattle.std.proofs.lemmas.List.{take_more, take_all, map-append, append-nil}
use Rattle.load_memory.specs.Pairs.{PairOf}
use Rattle.load_memory.specs.LoaderMemories.{staged_of}
use Rattle.load_memory.specs.Replies.{ReplyOf, reply_of, reply_pairs, pairs_of}
use Rattle.load_memory.specs.Keys.{mode_at}
use Rattle.load_memory.specs.declared.key.KeyMode.{KeyMode}
use Rattle.load_memory.specs.Shelves.{shown}
use Rattle.load_memory.proofs.ReplyPairs.{mode-at, pairs_of-append, pairs-below, All-of_map, All-to_map}
use Rattle.load_memory.proofs.memory.Memory.index.Goals as goal

-- one receipt more
shown-more : (modes : _) (done : List PairOf) (x y : ReplyOf) (pairs : List PairOf) (mode : KeyMode) → x ≡ y → mode_at modes x.loader ≡ mode → pairs ≡ done ++ reply_pairs mode x.loader x.keys x.outcomes → pairs ≡ done ++ (reply_pairs (mode_at modes y.loader) y.loader y.keys y.outcomes ++ [])
shown-more modes done x y pairs mode same is e = rw (← same, is, append-nil) e

pub loop-receipt-preserved : goal.loop-receipt-preserved
loop-receipt-preserved c =
    let modes = c.args.self.now.modes in
    let i = c.loop-receipt.receipt-index in
    let r = c.receipt-item.result in
    let x : ReplyOf = reply_of c.at-reply.result.now in
    let mode = mode-at modes x.loader c.mode.result c.mode.ensures in
    let next = take_more c.args.receipts.now i r c.loop-receipt-test.true in
    rw (next, ← c.receipt-item.is, map-append shown, pairs_of-append)
    (shown-more modes (pairs_of modes (map shown (take i c.args.receipts.now))) x (shown r) (map staged_of c.stage.new.pairs.items) c.mode.result c.at-reply.ensures mode
    (c.in_ok-stage.ensures ∙ ap (λ ps. ps ++ reply_pairs c.mode.result x.loader x.keys x.outcomes) c.loop-receipt.invariant))

pub store-requires : goal.store-requires
store-requires c =
    let all : take c.loop-receipt.receipt-index c.args.receipts.now ≡ c.args.receipts.now = take_all c.loop-receipt.receipt-index c.args.receipts.now (omega arith) in
    let n : ℕ = length c.args.self.now.modes in
    let pairs = rw all at c.loop-receipt.invariant in
    All-of_map staged_of (λ (p : PairOf). p.loader < n) c.loop-receipt.pairs.items (rw pairs (pairs-below c.args.self.now.modes n (map shown c.args.receipts.now) (All-to_map shown (λ (r : ReplyOf). r.loader < n) c.args.receipts.now c.requires.loaders)))

pub returns-clause-pairs : goal.returns-clause-pairs
returns-clause-pairs c =
    let all : take c.loop-receipt.receipt-index c.args.receipts.now ≡ c.args.receipts.now = take_all c.loop-receipt.receipt-index c.args.receipts.now (omega arith) in
    let pairs = rw all at c.loop-receipt.invariant in
    rw (← pairs) c.store.ensures.pairs
