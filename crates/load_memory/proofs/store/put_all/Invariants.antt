use Rattle.std.proofs.Common.{◌≡◌, ◌+◌, ◌<◌, ◌≤◌, ℕ, length, map, reverse}
use Rattle.std.specs.Prelude.{All}
use Rattle.std.specs.Option.{option_or}
use Rattle.load_memory.specs.Keys.{KeyOf}
use Rattle.load_memory.specs.Pairs.{look}
use Rattle.load_memory.specs.LoaderMemories.{HaveOwnKeys, HaveRoom, pairs_from, staged_of}
use Rattle.load_memory.specs.declared.loader_memory.StagedPair.{StagedPair}
use Rattle.load_memory.proofs.store.put_all.Given as goal

abbrev pub invariant-loop-pair : goal.invariant-loop-pair
invariant-loop-pair l = record {
  lined_up : length l.parts.items ≡ length l.fn.parts.items;
  own_keys : HaveOwnKeys l.parts.items;
  room : HaveRoom l.parts.items (reverse l.rest.items);
  loaders : All (λ (s : StagedPair). s.loader < length l.parts.items) (reverse l.rest.items);
  pairs : (loader : ℕ) (key : KeyOf) → option_or (look (pairs_from 0 l.parts.items) loader key) (look (map staged_of (reverse l.rest.items)) loader key)
      ≡ option_or (look (pairs_from 0 l.fn.parts.items) loader key) (look (map staged_of l.fn.pairs.items) loader key);
  count : length (pairs_from 0 l.parts.items) ≡ length (pairs_from 0 l.fn.parts.items) + l.added;
  most : l.added + length l.rest.items ≤ length l.fn.pairs.items;
}

abbrev pub decreases-loop-pair : goal.decreases-loop-pair
decreases-loop-pair l = length l.rest.items
