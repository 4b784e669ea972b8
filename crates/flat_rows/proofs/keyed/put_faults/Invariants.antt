use Rattle.std.proofs.Common.{◌≡◌, map, take, drop}
use Rattle.std.specs.Prelude.{zip}
use Rattle.load_memory.specs.Outcomes.{item_of}
use Rattle.flat_rows.specs.Keyed.{with_faults}
use Rattle.flat_rows.proofs.keyed.put_faults.Given as goal

abbrev pub invariant-loop-i : goal.invariant-loop-i
invariant-loop-i l = map item_of l.items.items ≡ with_faults (take l.i (zip l.places (drop l.at l.texts))) (map item_of l.fn.items.items)
