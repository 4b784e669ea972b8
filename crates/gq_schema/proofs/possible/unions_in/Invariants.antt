use Rattle.std.proofs.Common.{◌≡◌, ◌||◌, ℕ, List, drop}
use Rattle.std.specs.List.{list_any}
use Rattle.gq_schema.specs.Types.{has_member}
use Rattle.gq_schema.specs.Indexes.{tree_in}
use Rattle.gq_schema.specs.Possible.{has_union}
use Rattle.gq_schema.proofs.possible.unions_in.Given as goal

abbrev pub invariant-loop-indexed : goal.invariant-loop-indexed
invariant-loop-indexed l = (o q : List ℕ) → (list_any (has_member q o) (tree_in (drop l.indexed-index l.definitions)) || has_union l.unions o q) ≡ list_any (has_member q o) (tree_in l.definitions)
