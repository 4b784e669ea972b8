-- Definitions of what a source answers from.
use Rattle.csv_source.specs.Tables.{SourceOf, rows_of, source_of_all, source_by, source_by_two}
use Rattle.csv_source.specs.declared.source.Finder.{Finder}
use Rattle.csv_source.specs.declared.source.Finder.TheVariants.{All, Owned, Shared, OwnedPair, SharedPair}

abbrev pub source_of : Finder → SourceOf
source_of (All table) = source_of_all (rows_of table.now)
source_of (Owned index) = source_by index.rows index.column index.mode
source_of (Shared index) = source_by index.now.rows index.now.column index.now.mode
source_of (OwnedPair index) = source_by_two index.rows index.column index.second index.mode
source_of (SharedPair index) =
    source_by_two index.now.rows index.now.column index.now.second index.now.mode
