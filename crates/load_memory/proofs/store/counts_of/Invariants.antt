use Rattle.std.proofs.Common.{◌≡◌, ◌<◌, ℕ, take, length}
use Rattle.std.specs.Prelude.{slice_index}
use Rattle.load_memory.specs.LoaderMemories.{count_at}
use Rattle.load_memory.proofs.store.counts_of.Given as goal

abbrev pub invariant-loop-pair : goal.invariant-loop-pair
invariant-loop-pair l = record {
  lined_up : length l.counts.items ≡ l.loaders;
  counts : (loader : ℕ) → loader < l.loaders → slice_index l.counts.items loader ≡ count_at loader (take l.pair-index l.pairs);
}
