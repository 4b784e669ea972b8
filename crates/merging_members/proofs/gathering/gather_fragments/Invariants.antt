use Rattle.std.proofs.Common.{◌≡◌, ◌+◌, ℕ, List, drop, map}
use Rattle.gq_parser.specs.Tree.{fragment_of}
use Rattle.merging_members.specs.Fragments.{target_at}
use Rattle.merging_members.specs.Members.{count_fragments}
use Rattle.merging_members.specs.SetMembers.{Knows}
use Rattle.merging_members.specs.Written.{written_fragments, belows}
use Rattle.merging_members.proofs.Adding.{Adding}
use Rattle.merging_members.proofs.gathering.gather_fragments.Given as goal

abbrev pub invariant-loop-fragment : goal.invariant-loop-fragment
invariant-loop-fragment l = record {
  counted : l.next + count_fragments (map fragment_of (drop l.fragment-index l.fragments)) ≡ l.first + count_fragments (map fragment_of l.fragments);
  added : (spread : List ℕ → List ℕ) → Knows l.walk.rows.now l.walk.numbers.now l.walk.fragments.now (target_at l.walk.targets.now) spread
      → Adding l.walk.numbers.now (belows (written_fragments (map fragment_of l.fragments))) spread l.first l.next (belows (written_fragments (map fragment_of (drop l.fragment-index l.fragments)))) l.initial.rows.items l.rows.items;
}
