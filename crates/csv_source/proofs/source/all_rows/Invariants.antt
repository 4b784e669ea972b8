use Rattle.std.proofs.Common.{◌≡◌, take}
use Rattle.csv_source.specs.Tables.{rows_of}
use Rattle.csv_source.proofs.source.all_rows.Given as goal

abbrev pub invariant-loop-place : goal.invariant-loop-place
invariant-loop-place l = l.rows.items ≡ take l.place (rows_of l.table)
