use Rattle.std.proofs.Common.{◌≡◌, ℕ, List, drop, string_bytes}
use Rattle.gq_schema.specs.Possible.{names_at, with_name_if, is_among}
use Rattle.gq_schema.proofs.possible.add_to_unions.Given as goal

abbrev pub invariant-loop-name : goal.invariant-loop-name
invariant-loop-name l = (q : List ℕ) → with_name_if (is_among q (drop l.name-index l.names)) (names_at l.possible q) (string_bytes l.object.text) ≡ with_name_if (is_among q l.names) (names_at l.initial.possible q) (string_bytes l.object.text)
