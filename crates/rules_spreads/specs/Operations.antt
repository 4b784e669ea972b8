-- The operations of a span.
use Rattle.std.specs.Prelude.{ℕ, Bool, List, map}
use Rattle.gq_parser.specs.Tree.{Operation, operation_of}
use Rattle.rules_spreads.specs.declared.operation_span.OperationSpan.{OperationSpan}
use Rattle.rules_spreads.specs.Graphs.{GraphOf}
use Rattle.rules_spreads.specs.declared.operation_set.OperationSet.{OperationSet}
use Rattle.rules_spreads.specs.OperationSpans.{AreReachers, any_below, is_missing_at}

-- all operations of the document, and not those of the span alone
abbrev pub operations_in : OperationSpan → List Operation
operations_in b = map operation_of b.operations.now

-- the sets that the span has are those of this graph
abbrev pub IsReached : GraphOf → OperationSpan → Type 0
IsReached g b = AreReachers g b.first b.count b.reached.items

-- the place s stands in the row of an operation of the span that isn't in the set
abbrev pub is_missing_in_span : List (List ℕ) → OperationSpan → OperationSet → ℕ → Bool
is_missing_in_span rows b set s = any_below (is_missing_at rows b.first set s) b.count
