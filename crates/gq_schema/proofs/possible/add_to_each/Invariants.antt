use Rattle.std.proofs.Common.{◌≡◌, ℕ, List, drop, string_bytes}
use Rattle.std.specs.List.{list_any}
use Rattle.schema_syntax.specs.Tree.{names_of}
use Rattle.gq_schema.specs.Types.{is_called}
use Rattle.gq_schema.specs.Possible.{names_at, with_name_if}
use Rattle.gq_schema.proofs.possible.add_to_each.Given as goal

abbrev pub invariant-loop-name : goal.invariant-loop-name
invariant-loop-name l = (q : List ℕ) → with_name_if (list_any (is_called q) (names_of (drop l.name-index l.names))) (names_at l.possible q) (string_bytes l.object.text) ≡ with_name_if (list_any (is_called q) (names_of l.names)) (names_at l.initial.possible q) (string_bytes l.object.text)
