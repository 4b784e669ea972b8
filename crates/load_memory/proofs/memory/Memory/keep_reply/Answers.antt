use Rattle.std.proofs.Common.{◌≡◌, ◌<◌, ℕ, List, [], ◌∷◌, ◌++◌, map, length}
use Rattle.std.proofs.lemmas.List.{append-nil}
use Rattle.std.proofs.lemmas.List.Elements.{All-cons, All-nil}
use Rattle.load_memory.specs.Keys.{key_of, mode_at}
use Rattle.load_memory.specs.Outcomes.{outcome_of}
use Rattle.load_memory.specs.Pairs.{PairOf}
use Rattle.load_memory.specs.LoaderMemories.{staged_of}
use Rattle.load_memory.specs.Replies.{ReplyOf, reply_of, reply_pairs, pairs_of}
use Rattle.load_memory.specs.declared.key.KeyMode.{KeyMode}
use Rattle.load_memory.specs.declared.loader_memory.StagedPair.{StagedPair}
use Rattle.load_memory.specs.declared.reply.Reply.{Reply}
use Rattle.load_memory.proofs.ReplyPairs.{mode-at, pairs-below, All-of_map}
use Rattle.load_memory.proofs.memory.Memory.keep_reply.Goals as goal

-- the pairs of one reply are those of a list of it alone
of-one : (modes : List KeyMode) (r : Reply) (mode : KeyMode) (pairs : List PairOf) → mode_at modes r.loader ≡ mode → pairs ≡ reply_pairs mode r.loader (map key_of r.keys) (map outcome_of r.outcomes.items)
    → pairs ≡ reply_pairs (mode_at modes r.loader) r.loader (map key_of r.keys) (map outcome_of r.outcomes.items) ++ []
of-one modes r mode pairs is e = rw (is, append-nil (reply_pairs mode r.loader (map key_of r.keys) (map outcome_of r.outcomes.items))) e

-- they were staged where nothing was
staged-one : (modes : List KeyMode) (r : Reply) (mode : KeyMode) (was : List StagedPair) (pairs : List PairOf) → mode_at modes r.loader ≡ mode → was ≡ []
    → pairs ≡ map staged_of was ++ reply_pairs mode r.loader (map key_of r.keys) (map outcome_of r.outcomes.items) → pairs ≡ pairs_of modes (reply_of r ∷ [])
staged-one modes r mode was pairs is none e = of-one modes r mode pairs is (rw none at e)

pub returns-then-len-eq1-2-clause-pairs : goal.returns-then-len-eq1-2-clause-pairs
returns-then-len-eq1-2-clause-pairs c =
    let modes = c.args.self.now.modes in
    let r = c.args.reply in
    let mode = c.mode-mode.result in
    rw (← of-one modes r mode (staged_of c.in_ok-pair.pair ∷ []) (mode-at modes r.loader mode c.mode-mode.ensures) c.in_ok-pair.ensures) c.store_one.ensures.pairs

pub store-requires : goal.store-requires
store-requires c =
    let modes = c.args.self.now.modes in
    let r = c.args.reply in
    let mode = c.mode-mode.result in
    let n : ℕ = length modes in
    let staged = staged-one modes r mode c.new-pairs.result.items (map staged_of c.stage_owned.new.pairs.items) (mode-at modes r.loader mode c.mode-mode.ensures) c.new-pairs.ensures.items c.in_ok-stage_owned.ensures in
    let below = pairs-below modes n (reply_of r ∷ []) (All-cons (λ (r : ReplyOf). r.loader < n) (reply_of r) [] c.requires (All-nil (λ (r : ReplyOf). r.loader < n))) in
    All-of_map staged_of (λ (p : PairOf). p.loader < n) c.stage_owned.new.pairs.items (rw staged below)

pub returns-clause-pairs : goal.returns-clause-pairs
returns-clause-pairs c =
    let modes = c.args.self.now.modes in
    let r = c.args.reply in
    let mode = c.mode-mode.result in
    let staged = staged-one modes r mode c.new-pairs.result.items (map staged_of c.stage_owned.new.pairs.items) (mode-at modes r.loader mode c.mode-mode.ensures) c.new-pairs.ensures.items c.in_ok-stage_owned.ensures in
    rw (← staged) c.store.ensures.pairs
