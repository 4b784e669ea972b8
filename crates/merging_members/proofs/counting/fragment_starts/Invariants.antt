use Rattle.std.proofs.Common.{◌≡◌, ◌+◌, ◌++◌, drop, map}
use Rattle.gq_parser.specs.Tree.{fragment_of}
use Rattle.merging_members.specs.Members.{count_fragments, starts_from}
use Rattle.merging_members.proofs.counting.fragment_starts.Given as goal

abbrev pub invariant-loop-fragment : goal.invariant-loop-fragment
invariant-loop-fragment l = record {
  counted : l.next + count_fragments (map fragment_of (drop l.fragment-index l.fragments)) ≡ l.first + count_fragments (map fragment_of l.fragments);
  starts : l.starts.items ++ starts_from l.next (map fragment_of (drop l.fragment-index l.fragments)) ≡ starts_from l.first (map fragment_of l.fragments);
}
