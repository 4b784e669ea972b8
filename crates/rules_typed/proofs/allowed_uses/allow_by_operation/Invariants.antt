use Rattle.std.proofs.Common.{◌≡◌, ◌++◌, ◌<◌, ℕ, List, true, false, not, eqb, length, map}
use Rattle.std.specs.Slice.Iter.{iter_rest}
use Rattle.std.specs.Iterator.Adapters.{rev_source}
use Rattle.gq_parser.specs.declared.tree.VariableDefinition.{VariableDefinition}
use Rattle.gq_parser.specs.Tree.{variable_of}
use Rattle.rules_parts.specs.Parts.{use_of}
use Rattle.rules_spreads.specs.OperationSpans.{has, set_at}
use Rattle.rules_typed.specs.AllVariableUsagesAreAllowed.{forbids}
use Rattle.rules_typed.specs.UseKinds.{use_at, IsKind}
use Rattle.rules_typed.proofs.allowed_uses.allow_by_operation.Given as goal

abbrev pub invariant-loop-variable : goal.invariant-loop-variable
invariant-loop-variable l = record {
  behind : List VariableDefinition;
  all : iter_rest (rev_source l.variable-iterator) ++ behind ≡ l.variables;
  own : (r : ℕ) → r < length l.uses → IsKind l.kinds.known (map use_of l.uses) r → has (set_at l.initial.sets.items r) l.number ≡ true →
      has (set_at l.sets.items r) l.number ≡ not (forbids (map variable_of behind) (use_at (map use_of l.uses) r));
  others : (r m : ℕ) → r < length l.uses → m < 64 → eqb m l.number ≡ false → has (set_at l.sets.items r) m ≡ has (set_at l.initial.sets.items r) m;
}
