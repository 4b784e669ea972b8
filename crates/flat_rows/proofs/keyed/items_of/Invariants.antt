use Rattle.std.proofs.Common.{◌≡◌, [], map, take, drop, length, get_or}
use Rattle.load_memory.specs.Outcomes.{item_of, rows}
use Rattle.flat_rows.proofs.keyed.items_of.Given as goal

abbrev pub invariant-loop-rows : goal.invariant-loop-rows
invariant-loop-rows l = let i = length l.items.items in record {
  left : l.rows-iterator.rest.items ≡ drop i l.fn.groups.items;
  said : map item_of l.items.items ≡ map (λ p. rows (get_or l.fn.groups.items p [])) (take i l.of_keys);
}
