use Rattle.std.proofs.Common.{◌≡◌, ◌≤◌, ◌+◌, ℕ, true, List, length}
use Rattle.std.specs.Prelude.{find}
use Rattle.gq_parser.specs.Tree.{document_of, set_of}
use Rattle.merging_members.specs.Fragments.{place_in}
use Rattle.merging_members.specs.Members.{count_in, members_in}
use Rattle.merging_members.specs.Ranked.{spreads_in, is_under, IsRanked}
use Rattle.merging_members.specs.SetMembers.{Knows, IsFixed, is_key}
use Rattle.merging_members.proofs.first.first_member.Given as goal

abbrev pub invariant-loop : goal.invariant-loop
invariant-loop l = record {
  met : (spread : List ℕ → List ℕ) → Knows l.source.rows.now l.source.numbers.now l.table (place_in (document_of l.source.document.now).fragments) spread → IsFixed spread (document_of l.source.document.now)
      → find (is_key l.keys l.source.numbers.now) (members_in spread l.at.first (set_of l.at.set.now)) ≡ find (is_key l.keys l.source.numbers.now) (members_in spread l.fn.set.first (set_of l.fn.set.set.now));
  inside : l.at.first + count_in (set_of l.at.set.now) ≤ length l.source.numbers.now;
  lower : (ranks : List ℕ) → IsRanked ranks (place_in (document_of l.source.document.now).fragments) (document_of l.source.document.now).fragments
      → (bound : ℕ) × (bound + l.counter ≤ length (document_of l.source.document.now).fragments) × (spreads_in (is_under ranks (place_in (document_of l.source.document.now).fragments) bound) (set_of l.at.set.now) ≡ true);
}
