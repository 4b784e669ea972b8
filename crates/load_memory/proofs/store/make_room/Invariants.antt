use Rattle.std.proofs.Common.{◌≡◌, ◌<◌, ◌≤◌, ℕ, length}
use Rattle.std.specs.Prelude.{slice_index}
use Rattle.load_memory.specs.Pairs.{IsSameMap}
use Rattle.load_memory.specs.LoaderMemories.{HaveOwnKeys, pairs_from, room_at}
use Rattle.load_memory.proofs.store.make_room.Given as goal

abbrev pub invariant-loop-loader : goal.invariant-loop-loader
invariant-loop-loader l = record {
  lined_up : length l.parts.items ≡ length l.fn.parts.items;
  own_keys : HaveOwnKeys l.parts.items;
  pairs : IsSameMap (pairs_from 0 l.parts.items) (pairs_from 0 l.fn.parts.items);
  count : length (pairs_from 0 l.parts.items) ≡ length (pairs_from 0 l.fn.parts.items);
  room : (loader : ℕ) → loader < l.loader → slice_index l.counts loader ≤ room_at l.parts.items loader;
}
