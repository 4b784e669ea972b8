use Rattle.std.proofs.Common.{◌≡◌, ◌++◌, map, take}
use Rattle.std.specs.List.{flat_map}
use Rattle.load_memory.specs.Keys.{key_of}
use Rattle.flat_orders.specs.Written.{shape_of, texts_in}
use Rattle.flat_orders.proofs.lists.write_keys.Given as goal

abbrev pub invariant-loop-key : goal.invariant-loop-key
invariant-loop-key l = record {
  shapes : l.shapes.items ≡ l.fn.shapes.items ++ map shape_of (map key_of (take l.key-index l.keys));
  texts : l.texts ≡ l.fn.texts ++ flat_map texts_in (map key_of (take l.key-index l.keys));
}
