use Rattle.std.proofs.Common.{◌≡◌, ◌+◌, ℕ, List, map, bytes_eq}
use Rattle.std.specs.Prelude.{◌&&◌, nat_lt}
use Rattle.std.specs.HashMap.{get_by}
use Rattle.std.specs.Borrow.{Bor}
use Rattle.gq_parser.specs.Tree.{operation_of}
use Rattle.rules_spreads.specs.OperationSpans.{has, set_at}
use Rattle.rules_untyped.specs.UseRows.{defines_at}
use Rattle.rules_untyped.proofs.spans.defining_sets.Given as goal

abbrev pub invariant-loop-number : goal.invariant-loop-number
invariant-loop-number l = (n m : ℕ) →
    has (set_at l.sets.items n) m ≡ (nat_lt m l.number && defines_at (λ (q : List ℕ). get_by (λ (k : Bor (List ℕ)). bytes_eq q k.now) l.names) n (map operation_of l.span.operations.now) (l.span.first + m))
