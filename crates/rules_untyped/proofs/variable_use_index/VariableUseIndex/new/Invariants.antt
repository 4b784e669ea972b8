use Rattle.std.proofs.Common.{◌≡◌, ◌<◌, ℕ, map, slice_index, vec_len}
use Rattle.rules_parts.specs.Parts.{use_of}
use Rattle.rules_spreads.specs.OwnerLists.{owner_rows}
use Rattle.rules_untyped.specs.UseRows.{use_at, IsIn, IsUpTo}
use Rattle.rules_untyped.proofs.variable_use_index.VariableUseIndex.new.Given as goal

abbrev pub invariant-loop-place : goal.invariant-loop-place
invariant-loop-place l = record {
  placed : vec_len l.stand_ins ≡ l.place;
  so_far : IsUpTo (map use_of l.uses) l.numbers.items (owner_rows l.rows) l.lasts.items l.place;
  stood : (k : ℕ) → k < l.place → IsIn (owner_rows l.rows) (use_at (map use_of l.uses) k).owner (slice_index l.stand_ins.items k);
  alike : (k : ℕ) → k < l.place → slice_index l.numbers.items (slice_index l.stand_ins.items k) ≡ slice_index l.numbers.items k;
}
