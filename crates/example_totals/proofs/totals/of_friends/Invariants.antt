use Rattle.std.proofs.Common.{◌≡◌, ◌<◌, ◌+◌, ◌^◌, ℕ, List, drop, length}
use Rattle.load_memory.specs.Rows.{RowOf}
use Rattle.execution.specs.Program.{Programs, all_needs, trees}
use Rattle.execution.specs.Front.{missing, wanting}
use Rattle.execution.specs.Reads.{counted}
use Rattle.load_rounds.specs.Calls.{reader_of}
use Rattle.example_totals.specs.Totals.{friend_totals}
use Rattle.example_totals.specs.Found.{found_of, both, found_below}
use Rattle.example_totals.proofs.totals.of_friends.Given as goal

-- the friends from this place on
abbrev pub rest_from : List RowOf → ℕ → Programs
rest_from friends i = friend_totals i (drop i friends)

-- with what is left, it comes to what all friends come to, and to the same wants
abbrev pub invariant-loop-friend : goal.invariant-loop-friend
invariant-loop-friend l = record {
  found : both (found_of l.all.found) (found_below (trees (rest_from l.friends l.friend-index) (reader_of l.memory))) ≡ found_below (trees (friend_totals 0 l.friends) (reader_of l.memory));
  loads : counted (l.all.loads + length (all_needs (rest_from l.friends l.friend-index) (reader_of l.memory))) ≡ counted (length (all_needs (friend_totals 0 l.friends) (reader_of l.memory)));
  bounded : l.all.loads < 2 ^ 64;
  wants : wanting l.wants (missing (reader_of l.memory) (all_needs (rest_from l.friends l.friend-index) (reader_of l.memory)))
      ≡ wanting l.fn.wants (missing (reader_of l.memory) (all_needs (friend_totals 0 l.friends) (reader_of l.memory)));
  loaders : length l.wants ≡ length l.fn.wants;
}
