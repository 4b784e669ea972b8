use Rattle.std.proofs.Common.{◌≡◌, ◌+◌, ◌++◌, ℕ, List, drop, map}
use Rattle.std.specs.Prelude.{filter, length, All}
use Rattle.gq_parser.specs.Tree.{map_selections, set_of}
use Rattle.merging_members.specs.Fragments.{target_at}
use Rattle.merging_members.specs.Members.{count_among, members_in, sets_among}
use Rattle.merging_members.specs.SetMembers.{Knows, is_clashing, clashing_of, IsInside}
use Rattle.merging_members.proofs.Entering.{Entered}
use Rattle.merging_members.proofs.visiting.+visiting.Given as goal

abbrev pub invariant-visit_set-loop-selection : goal.invariant-visit_set-loop-selection
invariant-visit_set-loop-selection l = record {
  counted : l.next + count_among (map_selections (drop l.selection-index l.set.selections.items)) ≡ l.first + count_among (map_selections l.set.selections.items);
  entered : (spread : List ℕ → List ℕ) → Knows l.walk.rows.now l.walk.numbers.now l.walk.fragments.now (target_at l.walk.targets.now) spread
      → Entered l.walk.rows.now l.walk.numbers.now (members_in spread l.first (set_of l.set)) spread l.next (map_selections (drop l.selection-index l.set.selections.items)) l.reached;
  inside : All (IsInside (length l.walk.numbers.now)) l.initial.clashing.items → All (IsInside (length l.walk.numbers.now)) l.clashing.items;
  found : (spread : List ℕ → List ℕ) → Knows l.walk.rows.now l.walk.numbers.now l.walk.fragments.now (target_at l.walk.targets.now) spread
      → map (clashing_of spread) l.clashing.items ++ filter (is_clashing l.walk.rows.now l.walk.numbers.now) (sets_among spread l.next (map_selections (drop l.selection-index l.set.selections.items)))
      ≡ map (clashing_of spread) l.initial.clashing.items ++ filter (is_clashing l.walk.rows.now l.walk.numbers.now) (sets_among spread l.first (map_selections l.set.selections.items));
}
