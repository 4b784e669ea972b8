use Rattle.std.proofs.Common.{◌≡◌, Some, map, take}
use Rattle.load_memory.specs.Keys.{KeyOf, key_of, folded}
use Rattle.flat_rows.specs.Grouped.{first_place, place_in}
use Rattle.flat_rows.proofs.keyed.note_keys.Given as goal

abbrev pub invariant-loop-place : goal.invariant-loop-place
invariant-loop-place l = let ks = map key_of l.keys in record {
  first : (q : KeyOf) → place_in l.first q ≡ first_place l.mode (take l.place ks) q;
  of_keys : map (λ p. Some p) l.of_keys.items ≡ map (λ k. first_place l.mode ks (folded l.mode k)) (take l.place ks);
}
