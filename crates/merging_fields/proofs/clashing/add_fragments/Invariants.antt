use Rattle.std.proofs.Common.{◌≡◌, ◌+◌, ◌++◌, ℕ, List, length, drop, map}
use Rattle.std.specs.Prelude.{filter, All}
use Rattle.gq_parser.specs.Tree.{fragment_of}
use Rattle.merging_members.specs.Fragments.{target_at}
use Rattle.merging_members.specs.Members.{count_fragments, fragment_sets}
use Rattle.merging_members.specs.SetMembers.{Knows, is_clashing, clashing_of, IsInside}
use Rattle.merging_fields.proofs.clashing.add_fragments.Given as goal

abbrev pub invariant-loop-fragment : goal.invariant-loop-fragment
invariant-loop-fragment l = record {
  sets : (spread : List ℕ → List ℕ) → Knows l.walk.rows.now l.walk.numbers.now l.walk.fragments.now (target_at l.walk.targets.now) spread
      → map (clashing_of spread) l.clashing.items ++ filter (is_clashing l.walk.rows.now l.walk.numbers.now) (fragment_sets spread l.next (map fragment_of (drop l.fragment-index l.fragments)))
      ≡ map (clashing_of spread) l.initial.clashing.items ++ filter (is_clashing l.walk.rows.now l.walk.numbers.now) (fragment_sets spread l.first (map fragment_of l.fragments));
  counted : l.next + count_fragments (map fragment_of (drop l.fragment-index l.fragments)) ≡ l.first + count_fragments (map fragment_of l.fragments);
  inside : All (IsInside (length l.walk.numbers.now)) l.initial.clashing.items → All (IsInside (length l.walk.numbers.now)) l.clashing.items;
}
