use Rattle.std.proofs.Common.{◌≡◌, ◌+◌, ◌++◌, ℕ, Bool, true, List, drop}
use Rattle.gq_parser.specs.Tree.{map_selections, set_of}
use Rattle.merging_pairs.specs.Entered.{IsReached}
use Rattle.merging_members.specs.Fragments.{target_at}
use Rattle.merging_members.specs.Members.{count_among, members_in}
use Rattle.merging_members.specs.Ranked.{spreads_in}
use Rattle.merging_members.specs.SetMembers.{renumbered, KnowsSome}
use Rattle.merging_members.proofs.Entering.{Entered}
use Rattle.merging_members.proofs.set_members.+entering.Given as goal

abbrev pub invariant-enter_set-loop-selection : goal.invariant-enter_set-loop-selection
invariant-enter_set-loop-selection l = record {
  counted : l.next + count_among (map_selections (drop l.selection-index l.set.selections.items)) ≡ l.first + count_among (map_selections l.set.selections.items);
  entered : (spread : List ℕ → List ℕ) (test : List ℕ → Bool) (ms : List ℕ) → KnowsSome test l.walk.rows.now l.walk.numbers.now l.walk.fragments.now (target_at l.walk.targets.now) spread
      → spreads_in test (set_of l.set) ≡ true
      → IsReached l.walk.rows.now (renumbered l.walk.numbers.now ms) l.fn.reached
      → Entered l.walk.rows.now l.walk.numbers.now (ms ++ members_in spread l.first (set_of l.set)) spread l.next (map_selections (drop l.selection-index l.set.selections.items)) l.reached;
}
