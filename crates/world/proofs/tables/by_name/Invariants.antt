use Rattle.std.proofs.Common.{◌≡◌, ◌++◌, ℕ, List, map}
use Rattle.csv_source.specs.Reading.{Repeats}
use Rattle.std.specs.HashMap.{get_by_text}
use Rattle.world.specs.Sources.{table_of, names_of, sheet_named}
use Rattle.world.proofs.tables.by_name.Given as goal

abbrev pub invariant-loop-name : goal.invariant-loop-name
invariant-loop-name l = record {
  found : (q : List ℕ) → get_by_text l.named q ≡ sheet_named (map table_of l.yielded) q;
  whole : l.fn.tables.items ≡ l.yielded ++ l.name-iterator.rest.items;
  once : ¬ (Repeats (names_of (map table_of l.yielded)));
}
