use Rattle.std.proofs.Common.{◌≡◌, ◌+◌, drop}
use Rattle.gq_parser.specs.Tree.{map_selections}
use Rattle.merging_members.specs.Members.{capped, count_among}
use Rattle.merging_members.proofs.counting.+counting.Given as goal

abbrev pub invariant-fields_in-loop-selection : goal.invariant-fields_in-loop-selection
invariant-fields_in-loop-selection l = record {
  counted : capped (l.count + count_among (map_selections (drop l.selection-index l.set.selections.items))) ≡ capped (count_among (map_selections l.set.selections.items));
  fits : capped l.count ≡ l.count;
}
