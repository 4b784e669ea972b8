use Rattle.std.proofs.Common.{◌≡◌, take}
use Rattle.csv.specs.Records.{fields_of}
use Rattle.csv_source.proofs.read.add_fields.Given as goal

abbrev pub invariant-loop-field : goal.invariant-loop-field
invariant-loop-field l = record {
  over : l.field-iterator.row.now ≡ l.fields;
  sheet : l.sheet ≡ record { names = l.fn.sheet.names; rows = l.fn.sheet.rows; begun = take l.field-iterator.at (fields_of l.fields) };
}
