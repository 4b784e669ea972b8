use Rattle.std.proofs.Common.{◌≡◌, ◌||◌, ◌&&◌, ℕ, List, drop, string_bytes, bytes_eq}
use Rattle.std.specs.List.{list_any}
use Rattle.schema_syntax.specs.Tree.{names_of}
use Rattle.gq_schema.specs.Types.{is_called}
use Rattle.gq_schema.specs.Possible.{has_union}
use Rattle.gq_schema.proofs.possible.note_members.Given as goal

abbrev pub invariant-loop-member : goal.invariant-loop-member
invariant-loop-member l = (o q : List ℕ) → ((bytes_eq q (string_bytes l.union.name.text) && list_any (is_called o) (names_of (drop l.member-index l.union.members.items))) || has_union l.unions o q) ≡ ((bytes_eq q (string_bytes l.union.name.text) && list_any (is_called o) (names_of l.union.members.items)) || has_union l.initial.unions o q)
