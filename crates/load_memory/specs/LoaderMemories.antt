-- The pairs of a memory that keeps a hash map for each loader.
use Rattle.std.specs.Prelude.{◌≡◌, ◌==◌, ◌≤◌, ◌+◌, ℕ, zero, suc, Bool, false, List, [], ◌∷◌, ◌++◌, map, length, Option, Some, None, option_map, if◌then◌else◌}
use Rattle.std.specs.HashMap.{HashMap, IsUnique, spare}
use Rattle.std.specs.Map.{lookup}
use Rattle.std.specs.Option.{option_or}
use Rattle.std.specs.declared.hash.FoldHasher.{FoldHasher}
use Rattle.std.specs.declared.hash.BuildHasherDefault.{BuildHasherDefault}
use Rattle.load_memory.specs.Keys.{KeyOf, key_of, cache_of, same_key}
use Rattle.load_memory.specs.Outcomes.{OutcomeOf, outcome_of}
use Rattle.load_memory.specs.Pairs.{PairOf, IsSameMap, IsWith, look, unless_failed}
use Rattle.load_memory.specs.Replies.{reply_pairs}
use Rattle.load_memory.specs.declared.key.CacheKey.{CacheKey}
use Rattle.load_memory.specs.declared.key.KeyMode.{KeyMode}
use Rattle.load_memory.specs.declared.outcome.Outcome.{Outcome}
use Rattle.load_memory.specs.declared.loader_memory.StagedPair.{StagedPair}
use Rattle.load_memory.specs.declared.reply.Reply.{Reply}
use Rattle.load_memory.specs.contracts.key.CacheKeyPartialEq.TheImpl as key_eq

-- one loader's part of the memory
abbrev pub PartOf : Type 0
PartOf = HashMap CacheKey Outcome (BuildHasherDefault FoldHasher)

abbrev pub EntriesOf : Type 0
EntriesOf = List (CacheKey × Outcome)

abbrev pub pair_at : ℕ → CacheKey × Outcome → PairOf
pair_at loader e = record { loader = loader; key = cache_of e.0; outcome = outcome_of e.1 }

-- the pairs of the parts, whose loaders are numbered from n
abbrev pub pairs_from : ℕ → List PartOf → List PairOf
pairs_from n [] = []
pairs_from n (p ∷ ps) = map (pair_at n) p.entries ++ pairs_from (suc n) ps

-- gives what a part says of a key
abbrev pub look_in : EntriesOf → KeyOf → Option OutcomeOf
look_in es key = option_map outcome_of (lookup (λ x. same_key key (cache_of x)) es)

-- the entries have this pair, and of each other key what the old ones have
abbrev pub HasPut : KeyOf → OutcomeOf → EntriesOf → EntriesOf → Type 0
HasPut key outcome old new =
    (q : KeyOf) → look_in new q ≡ (if same_key q key then Some outcome else look_in old q)

-- says the same, where the old ones have no pair of the key; else they have what they had
abbrev pub HasPutIfAbsent : KeyOf → OutcomeOf → EntriesOf → EntriesOf → Type 0
HasPutIfAbsent key outcome old new = (q : KeyOf)
    → look_in new q ≡ option_or (look_in old q) (if same_key q key then Some outcome else None)

abbrev pub HasOwnKeys : PartOf → Type 0
HasOwnKeys p = IsUnique (key_eq.eq-value).it p

abbrev pub HaveOwnKeys : List PartOf → Type 0
HaveOwnKeys [] = Unit {0}
HaveOwnKeys (p ∷ ps) = HasOwnKeys p × HaveOwnKeys ps

-- the pair of a key that was absent was put: one entry more
pub record Puts (key : KeyOf) (outcome : OutcomeOf) (old new : PartOf) : Type 0 where
  pub pairs : HasPut key outcome old.entries new.entries
  pub count : length new.entries ≡ length old.entries + 1

-- the pair was put if its key was absent, and then is one entry more
pub record PutsIfAbsent (key : KeyOf) (outcome : OutcomeOf) (absent : Bool)
    (old new : PartOf) : Type 0 where
  pub pairs : HasPutIfAbsent key outcome old.entries new.entries
  pub count : length new.entries ≡ length old.entries + (if absent then 1 else 0)

-- the parts hold the same pairs, as many
pub record HoldSame (old new : List PartOf) : Type 0 where
  pub pairs : IsSameMap (pairs_from 0 new) (pairs_from 0 old)
  pub count : length (pairs_from 0 new) ≡ length (pairs_from 0 old)

-- no batch of these failed as a whole
abbrev pub AreUnfailed : List PairOf → Type 0
AreUnfailed ps = (loader : ℕ) (key : KeyOf)
    → unless_failed (look ps loader key) ≡ look ps loader key

-- There is a part for each mode, no part has a key twice, the pairs are counted, and where some batch failed that is
-- marked.
pub record AreParts (modes : List KeyMode) (parts : List PartOf) (count : ℕ)
    (failed : Bool) : Type 0 where
  pub lined_up : length parts ≡ length modes
  pub own_keys : HaveOwnKeys parts
  pub counted : count ≡ length (pairs_from 0 parts)
  pub unfailed : failed ≡ false → AreUnfailed (pairs_from 0 parts)

-- a pair that is to be stored
abbrev pub staged_of : StagedPair → PairOf
staged_of s = record { loader = s.loader; key = cache_of s.key; outcome = outcome_of s.outcome }

-- the pairs of a reply were added to those that are to be stored
abbrev pub AddsReply : KeyMode → Reply → List StagedPair → List StagedPair → Type 0
AddsReply mode r old new = map staged_of new ≡ map staged_of old
    ++ reply_pairs mode r.loader (map key_of r.keys) (map outcome_of r.outcomes.items)

-- of these pairs `added` were stored: those of absent keys, of equal keys the first
pub record StorePairs (pairs : List StagedPair) (added : ℕ) (old new : List PartOf) : Type 0 where
  pub stored : IsWith (pairs_from 0 old) (map staged_of pairs) (pairs_from 0 new)
  pub count : length (pairs_from 0 new) ≡ length (pairs_from 0 old) + added
  pub most : added ≤ length pairs

-- gives how many of these are of the loader of a number
abbrev pub count_at : ℕ → List StagedPair → ℕ
count_at loader [] = 0
count_at loader (s ∷ pairs) =
    if s.loader == loader then suc (count_at loader pairs) else count_at loader pairs

-- the places that the part of a loader has to spare
abbrev pub room_at : List PartOf → ℕ → ℕ
room_at [] loader = 0
room_at (p ∷ ps) zero = spare p
room_at (p ∷ ps) (suc loader) = room_at ps loader

-- each part has room for the pairs of its loader
abbrev pub HaveRoom : List PartOf → List StagedPair → Type 0
HaveRoom parts pairs = (loader : ℕ) → count_at loader pairs ≤ room_at parts loader
