-- Definitions of what is noted of a span of operations: for each use of a variable those that allow it where it is.
use Rattle.std.specs.Prelude.{◌≡◌, ◌<◌, ◌+◌, ◌==◌, ◌&&◌, ℕ, Bool, true, false, not, List, length, map, Some, slice_get, if◌then◌else◌}
use Rattle.gq_parser.specs.Tree.{VariableDefinition, Operation}
use Rattle.rules_parts.specs.declared.part.VariableUse as rust-use
use Rattle.rules_parts.specs.Parts.{use_of}
use Rattle.rules_spreads.specs.declared.operation_set.OperationSet.{OperationSet}
use Rattle.rules_spreads.specs.declared.operation_span.OperationSpan.{OperationSpan}
use Rattle.rules_spreads.specs.Operations.{operations_in}
use Rattle.rules_spreads.specs.OperationSpans.{has, set_at}
use Rattle.rules_typed.specs.declared.allowed_uses.Allowance.{Allowance}
use Rattle.rules_typed.specs.declared.allowed_uses.Allowance.TheVariants.{Allowed, Forbidden}
use Rattle.rules_typed.specs.declared.use_kinds.UseKinds.{UseKinds}
use Rattle.rules_typed.specs.AllVariableUsagesAreAllowed.{forbids}
use Rattle.rules_typed.specs.UseKinds.{is_listed, use_at, IsKind, is_forbidden_use}

abbrev pub allows : Allowance → Bool
allows Allowed = true
allows Forbidden = false

-- It is noted of these uses and operations of the span whether the operation, which has this variable, allows the use; of others
-- what was.
abbrev pub AllowsWhere : (ℕ → ℕ → Bool) → VariableDefinition → List rust-use.VariableUse
    → List OperationSet → List OperationSet → Type 0
AllowsWhere is_noted v uses old new = (r m : ℕ) → r < length uses → m < 64
    → has (set_at new r) m ≡ (if is_noted r m
    then not (is_forbidden_use v (use_at (map use_of uses) r)) else has (set_at old r) m)

-- It is noted of each use of the variable's name that stands for others whether the operation of this number, which has the variable,
-- allows it.
abbrev pub AllowsByVariable : UseKinds → VariableDefinition → ℕ → List rust-use.VariableUse
    → List OperationSet → List OperationSet → Type 0
AllowsByVariable kinds v number uses old new =
    AllowsWhere (λ r m. m == number && is_listed kinds.known v.name r) v uses old new

-- It is noted of each use that stands for others whether these variables, which are all of the operation's, allow it; it was noted
-- before that they do.
abbrev pub AllowsBy : UseKinds → List VariableDefinition → ℕ → List rust-use.VariableUse
    → List OperationSet → List OperationSet → Type 0
AllowsBy kinds vs number uses old new = (r : ℕ) → r < length uses
    → IsKind kinds.known (map use_of uses) r → has (set_at old r) number ≡ true
    → has (set_at new r) number ≡ not (forbids vs (use_at (map use_of uses) r))

-- of other operations than that of this number nothing else is noted
abbrev pub KeepsOthers : ℕ → List rust-use.VariableUse → List OperationSet
    → List OperationSet → Type 0
KeepsOthers number uses old new = (r m : ℕ) → r < length uses → m < 64
    → (m == number) ≡ false → has (set_at new r) m ≡ has (set_at old r) m

-- of each use that stands for others it is noted which operations of the span allow it
abbrev pub AreAllowed : UseKinds → List rust-use.VariableUse → OperationSpan
    → List OperationSet → Type 0
AreAllowed kinds uses b sets = (r m : ℕ) (o : Operation) → r < length uses
    → m < b.count → IsKind kinds.known (map use_of uses) r
    → slice_get (operations_in b) (b.first + m) ≡ Some o
    → has (set_at sets r) m ≡ not (forbids o.variables (use_at (map use_of uses) r))
