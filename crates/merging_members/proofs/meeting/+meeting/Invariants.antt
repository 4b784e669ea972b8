use Rattle.std.proofs.Common.{◌≡◌, ◌+◌, ℕ, List, drop}
use Rattle.std.specs.Prelude.{find}
use Rattle.gq_parser.specs.Tree.{map_selections}
use Rattle.merging_members.specs.Fragments.{target_at}
use Rattle.merging_members.specs.Members.{count_among, members_among}
use Rattle.merging_members.specs.SetMembers.{Knows, is_key}
use Rattle.merging_members.proofs.meeting.+meeting.Given as goal

abbrev pub invariant-come_through-loop-selection : goal.invariant-come_through-loop-selection
invariant-come_through-loop-selection l = record {
  counted : l.next + count_among (map_selections (drop l.selection-index l.set.selections.items)) ≡ l.first + count_among (map_selections l.set.selections.items);
  unmet : (spread : List ℕ → List ℕ) → Knows l.walk.rows.now l.walk.numbers.now l.walk.fragments.now (target_at l.walk.targets.now) spread
      → find (is_key l.keys l.walk.numbers.now) (members_among spread l.next (map_selections (drop l.selection-index l.set.selections.items)))
      ≡ find (is_key l.keys l.walk.numbers.now) (members_among spread l.first (map_selections l.set.selections.items));
}
