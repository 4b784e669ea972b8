use Rattle.std.proofs.Common.{◌≡◌, ◌-◌, ◌<◌, ℕ, length, map}
use Rattle.gq_parser.specs.Tree.{operation_of}
use Rattle.rules_typed.specs.AllVariableUsagesAreAllowed.{is_forbidden}
use Rattle.rules_typed.specs.UseKinds.{use_at}
use Rattle.rules_typed.specs.ForbiddenMarks.{uses_in, is_marked_or_forbidden}
use Rattle.rules_typed.proofs.rules.all_variable_usages_are_allowed.forbidden_marks.Given as goal

abbrev pub invariant-loop-first : goal.invariant-loop-first
invariant-loop-first l = (k : ℕ) → k < length l.parts.uses.items →
    is_marked_or_forbidden l.graph (uses_in l.parts) (map operation_of l.operations) l.marks.items l.first k ≡ is_forbidden l.graph 0 (map operation_of l.operations) (use_at (uses_in l.parts) k)

abbrev pub decreases-loop-first : goal.decreases-loop-first
decreases-loop-first l = length l.operations - l.first
