-- Definitions of what is kept for sources, and what it stands for.
use Rattle.std.specs.Prelude.{◌≡◌}
use Rattle.std.specs.Arc.{arc_value}
use Rattle.load_memory.specs.Rows.{SheetOf}
use Rattle.csv_source.specs.Tables.{SourceOf, IndexOf, PairIndexOf, rows_of, index_of, source_of_all, source_by, source_by_two}
use Rattle.world.specs.declared.tables.IndexedColumn.{IndexedColumn}
use Rattle.world.specs.declared.sources.SourceBasis.{SourceBasis}
use Rattle.world.specs.declared.sources.SourceBasis.TheVariants as parts

-- the index of that column of the sheet
abbrev pub IsKept : SheetOf → IndexedColumn → Type 0
IsKept sheet kept = arc_value kept.index ≡ index_of sheet kept.column (arc_value kept.index).mode

-- the source by an index
abbrev pub source_by_index : IndexOf → SourceOf
source_by_index index = source_by index.rows index.column index.mode

-- the source by an index of pairs
abbrev pub source_by_pair_index : PairIndexOf → SourceOf
source_by_pair_index index = source_by_two index.rows index.column index.second index.mode

abbrev pub source_of : SourceBasis → SourceOf
source_of (parts.All table) = source_of_all (rows_of (arc_value table))
source_of (parts.By index) = source_by_index (arc_value index)
source_of (parts.ByTwo index) = source_by_pair_index index
