use Rattle.std.proofs.Common.{◌≡◌, ◌<◌, ◌≤◌, ◌+◌, ℕ, true, not, Some, length, map, slice_get}
use Rattle.gq_parser.specs.Tree.{Operation}
use Rattle.rules_parts.specs.Parts.{use_of}
use Rattle.rules_spreads.specs.Operations.{operations_in}
use Rattle.rules_spreads.specs.OperationSpans.{has, set_at}
use Rattle.rules_typed.specs.AllVariableUsagesAreAllowed.{forbids}
use Rattle.rules_typed.specs.UseKinds.{use_at, IsKind}
use Rattle.rules_typed.proofs.allowed_uses.allowing_sets.Given as goal

abbrev pub invariant-loop-number : goal.invariant-loop-number
invariant-loop-number l = record {
  before : (r m : ℕ) (o : Operation) → r < length l.uses → m < l.number → IsKind l.kinds.known (map use_of l.uses) r → slice_get (operations_in l.span) (l.span.first + m) ≡ Some o →
      has (set_at l.sets.items r) m ≡ not (forbids o.variables (use_at (map use_of l.uses) r));
  behind : (r m : ℕ) → r < length l.uses → l.number ≤ m → m < 64 → has (set_at l.sets.items r) m ≡ true;
}
