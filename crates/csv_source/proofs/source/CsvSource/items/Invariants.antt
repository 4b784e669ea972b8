use Rattle.std.proofs.Common.{◌≡◌, map, take}
use Rattle.load_memory.specs.Keys.{key_of}
use Rattle.load_memory.specs.Outcomes.{item_of}
use Rattle.csv_source.specs.Tables.{item_of_key}
use Rattle.csv_source.proofs.source.CsvSource.items.Given as goal

abbrev pub invariant-loop-key : goal.invariant-loop-key
invariant-loop-key l = map item_of l.items.items ≡ map (item_of_key l.self) (map key_of (take l.key-index l.keys))
