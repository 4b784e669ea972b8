use Rattle.std.proofs.Common.{◌≡◌, ◌+◌, ℕ, List, drop}
use Rattle.gq_parser.specs.Tree.{map_selections, set_of}
use Rattle.merging_members.specs.Fragments.{target_at}
use Rattle.merging_members.specs.Members.{count_among, members_in}
use Rattle.merging_members.specs.SetMembers.{Knows}
use Rattle.merging_members.specs.Written.{written_among, belows}
use Rattle.merging_members.proofs.Entering.{Entered}
use Rattle.merging_members.proofs.Adding.{Adding}
use Rattle.merging_members.proofs.gathering.+gathering.Given as goal

abbrev pub invariant-gather_set-loop-selection : goal.invariant-gather_set-loop-selection
invariant-gather_set-loop-selection l = record {
  counted : l.next + count_among (map_selections (drop l.selection-index l.set.selections.items)) ≡ l.first + count_among (map_selections l.set.selections.items);
  entered : (spread : List ℕ → List ℕ) → Knows l.walk.rows.now l.walk.numbers.now l.walk.fragments.now (target_at l.walk.targets.now) spread
      → Entered l.walk.rows.now l.walk.numbers.now (members_in spread l.first (set_of l.set)) spread l.next (map_selections (drop l.selection-index l.set.selections.items)) l.reached;
  added : (spread : List ℕ → List ℕ) → Knows l.walk.rows.now l.walk.numbers.now l.walk.fragments.now (target_at l.walk.targets.now) spread
      → Adding l.walk.numbers.now (belows (written_among (map_selections l.set.selections.items))) spread l.first l.next (belows (written_among (map_selections (drop l.selection-index l.set.selections.items)))) l.initial.rows.items l.rows.items;
}
