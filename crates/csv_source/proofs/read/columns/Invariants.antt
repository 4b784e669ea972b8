use Rattle.std.proofs.Common.{◌≡◌, [], take}
use Rattle.csv.specs.Records.{fields_of}
use Rattle.csv_source.proofs.read.columns.Given as goal

abbrev pub invariant-loop-name : goal.invariant-loop-name
invariant-loop-name l = record {
  over : l.name-iterator.row.now ≡ l.names;
  sheet : l.sheet ≡ record { names = take l.name-iterator.at (fields_of l.names); rows = []; begun = [] };
}
