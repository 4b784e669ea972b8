use Rattle.std.proofs.Common.{◌≡◌, ◌++◌, take}
use Rattle.std.specs.Prelude.{All}
use Rattle.flat_outcomes.specs.Written.{row_before, widths_of, texts_of, last_row, IsNarrow}
use Rattle.flat_outcomes.proofs.rows.write_rows.Given as goal

abbrev pub invariant-loop-row : goal.invariant-loop-row
invariant-loop-row l = record {
  widths : l.widths.items ≡ l.fn.widths.items ++ widths_of (row_before l.before) (take l.row-index l.rows);
  texts : l.texts ≡ l.fn.texts ++ texts_of (row_before l.before) (take l.row-index l.rows);
  narrow : All IsNarrow (take l.row-index l.rows);
  last : row_before l.last ≡ last_row (row_before l.before) (take l.row-index l.rows);
}
