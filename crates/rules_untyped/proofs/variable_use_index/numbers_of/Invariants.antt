use Rattle.std.proofs.Common.{◌≡◌, ◌++◌, ℕ, List, map, drop, bytes_eq}
use Rattle.std.specs.HashMap.{get_by}
use Rattle.std.specs.Borrow.{Bor}
use Rattle.rules_parts.specs.Parts.{use_of}
use Rattle.rules_untyped.specs.VariableUseIndex.{numbers_by}
use Rattle.rules_untyped.proofs.variable_use_index.numbers_of.Given as goal

abbrev pub invariant-loop-part : goal.invariant-loop-part
invariant-loop-part l =
    l.numbers.items ++ numbers_by (λ (q : List ℕ). get_by (λ (k : Bor (List ℕ)). bytes_eq q k.now) l.names) (map use_of (drop l.part-index l.uses))
    ≡ numbers_by (λ (q : List ℕ). get_by (λ (k : Bor (List ℕ)). bytes_eq q k.now) l.names) (map use_of l.uses)
