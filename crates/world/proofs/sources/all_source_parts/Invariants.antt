use Rattle.std.proofs.Common.{◌≡◌, ℕ, List, drop, map}
use Rattle.std.specs.HashMap.{get_by_text}
use Rattle.gq_bindings.specs.Seen.{loader_of}
use Rattle.world.specs.Sources.{sources_for}
use Rattle.world.specs.IndexedColumns.{source_of}
use Rattle.world.proofs.Loaders.{joined}
use Rattle.world.proofs.sources.all_source_parts.Given as goal

abbrev pub invariant-loop-line : goal.invariant-loop-line
invariant-loop-line l = record {
  same : (q : List ℕ) → get_by_text l.tables q ≡ get_by_text l.initial.tables q;
  so_far : sources_for (get_by_text l.initial.tables) (map loader_of l.loaders) ≡ joined (map source_of l.all.items) (sources_for (get_by_text l.initial.tables) (map loader_of (drop l.line-index l.loaders)));
}
