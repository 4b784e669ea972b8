use Rattle.std.proofs.Common.{◌<◌, length, get_or, []}
use Rattle.csv_source.specs.Chains.{IsLinked}
use Rattle.csv_source.specs.Hashes.{in_bucket}
use Rattle.csv_source.specs.Tables.{rows_of}
use Rattle.csv_source.proofs.index.link_rows.Given as goal

abbrev pub invariant-loop-row : goal.invariant-loop-row
invariant-loop-row l = record {
  buckets : 0 < length l.links.first.items;
  linked : IsLinked (in_bucket l.mode (get_or l.sheet.names l.column [])) (rows_of l.sheet) l.links.first.items l.links.next.items l.row;
}
