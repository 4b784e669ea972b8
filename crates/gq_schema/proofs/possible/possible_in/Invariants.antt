use Rattle.std.proofs.Common.{◌≡◌, ℕ, List, drop, fold}
use Rattle.std.specs.List.{filter}
use Rattle.gq_schema.specs.Types.{is_possible, with_type, possible_names}
use Rattle.gq_schema.specs.Indexes.{tree_in}
use Rattle.gq_schema.specs.Possible.{names_at}
use Rattle.gq_schema.proofs.possible.possible_in.Given as goal

abbrev pub invariant-loop-indexed : goal.invariant-loop-indexed
invariant-loop-indexed l = (q : List ℕ) → fold with_type (names_at l.possible q) (filter (is_possible (tree_in l.definitions) q) (tree_in (drop l.indexed-index l.definitions))) ≡ possible_names (tree_in l.definitions) q
