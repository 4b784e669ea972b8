-- The places of a sheet's texts, whatever memory each takes.
use Rattle.std.specs.Prelude.{ℕ, List}
use Rattle.load_memory.specs.declared.ends.EndOffsets.{EndOffsets}
use Rattle.load_memory.specs.declared.ends.EndOffsets.TheVariants.{Narrow, Wide}

abbrev pub places_of : EndOffsets → List ℕ
places_of (Narrow places) = places.items
places_of (Wide places) = places.items
