use Rattle.std.proofs.Common.{◌≡◌, ◌<◌, ℕ, List, [], ◌∷◌, ◌++◌, map, length, append_assoc, arith}
use Rattle.std.proofs.lemmas.List.{append-nil}
use Rattle.std.proofs.lemmas.List.Elements.{All-tail}
use Rattle.std.specs.Prelude.{All}
use Rattle.load_memory.specs.Keys.{key_of, mode_at}
use Rattle.load_memory.specs.Outcomes.{outcome_of}
use Rattle.load_memory.specs.Pairs.{PairOf}
use Rattle.load_memory.specs.LoaderMemories.{staged_of}
use Rattle.load_memory.specs.Replies.{ReplyOf, reply_of, reply_pairs, pairs_of}
use Rattle.load_memory.specs.declared.key.KeyMode.{KeyMode}
use Rattle.load_memory.specs.declared.reply.Reply.{Reply}
use Rattle.load_memory.proofs.ReplyPairs.{mode-at, pairs-below, All-of_map, All-to_map}
use Rattle.load_memory.proofs.memory.Memory.keep_owned.Goals as goal

-- one reply more
staged-more : (modes : List KeyMode) (was now all : List PairOf) (r : Reply) (items rest : List Reply) (mode : KeyMode) → mode_at modes r.loader ≡ mode → items ≡ r ∷ rest
    → now ≡ was ++ reply_pairs mode r.loader (map key_of r.keys) (map outcome_of r.outcomes.items) → was ++ pairs_of modes (map reply_of items) ≡ all → now ++ pairs_of modes (map reply_of rest) ≡ all
staged-more modes was now all r items rest mode is split more e =
    rw (more, ← is, append_assoc was (reply_pairs (mode_at modes r.loader) r.loader (map key_of r.keys) (map outcome_of r.outcomes.items)) (pairs_of modes (map reply_of rest))) (rw split at e)

others : (n : ℕ) (items rest : List Reply) (r : Reply) → items ≡ r ∷ rest → All (λ (r : Reply). r.loader < n) items → All (λ (r : Reply). r.loader < n) rest
others n items rest r is below = All-tail (λ (r : Reply). r.loader < n) r rest (rw is at below)

pub loop-owned-preserved : goal.loop-owned-preserved
loop-owned-preserved c =
    let modes = c.args.self.now.modes in
    let was = c.loop-owned.invariant in
    let items = c.loop-owned.owned-iterator.rest.items in
    let rest = c.next.new.self.rest.items in
    let r = c.in-Some.owned in
    let is = c.in-Some.ensures.steps.0 in
    record {
      pairs = staged-more modes (map staged_of c.loop-owned.pairs.items) (map staged_of c.stage_owned.new.pairs.items) (pairs_of modes (map reply_of c.args.replies.items)) r items rest c.mode.result (mode-at modes r.loader c.mode.result c.mode.ensures) is c.in_ok-stage_owned.ensures was.pairs;
      loaders = others (length modes) items rest r is was.loaders;
    }

-- all pairs, once no reply is left
all-staged : (modes : List KeyMode) (staged all : List PairOf) (rest : List Reply) → length rest ≡ 0 → staged ++ pairs_of modes (map reply_of rest) ≡ all → staged ≡ all
all-staged modes staged all [] none e = rw append-nil at e
all-staged modes staged all (r ∷ rest) none e = absurd (cc none)

pub store-requires : goal.store-requires
store-requires c =
    let modes = c.args.self.now.modes in
    let n : ℕ = length modes in
    let replies = c.args.replies.items in
    let pairs = all-staged modes (map staged_of c.loop-owned.pairs.items) (pairs_of modes (map reply_of replies)) c.loop-owned.owned-iterator.rest.items (omega (arith, c.in-None.ensures.steps.0, c.loop-owned.owned-iterator.rest.ok.0)) c.loop-owned.invariant.pairs in
    All-of_map staged_of (λ (p : PairOf). p.loader < n) c.loop-owned.pairs.items (rw pairs (pairs-below modes n (map reply_of replies) (All-to_map reply_of (λ (r : ReplyOf). r.loader < n) replies c.requires)))

pub returns-clause-pairs : goal.returns-clause-pairs
returns-clause-pairs c =
    let modes = c.args.self.now.modes in
    let pairs = all-staged modes (map staged_of c.loop-owned.pairs.items) (pairs_of modes (map reply_of c.args.replies.items)) c.loop-owned.owned-iterator.rest.items (omega (arith, c.in-None.ensures.steps.0, c.loop-owned.owned-iterator.rest.ok.0)) c.loop-owned.invariant.pairs in
    rw (← pairs) c.store.ensures.pairs
