-- Marks on the uses of variables that operations forbid.
use Rattle.std.specs.Prelude.{◌≡◌, ◌<◌, ◌+◌, ◌||◌, ℕ, Bool, false, List, length, map, drop, slice_index_or}
use Rattle.gq_parser.specs.Tree.{Operation, document_of}
use Rattle.rules_parts.specs.declared.part.VariableUse as rust-use
use Rattle.rules_parts.specs.declared.parts.Parts.{Parts}
use Rattle.rules_parts.specs.Parts.{VariableUse, use_of}
use Rattle.rules_spreads.specs.Graphs.{GraphOf}
use Rattle.rules_spreads.specs.declared.operation_span.OperationSpan.{OperationSpan}
use Rattle.rules_spreads.specs.Operations.{operations_in, IsReached}
use Rattle.rules_typed.specs.AllVariableUsagesAreAllowed.{is_forbidden}
use Rattle.rules_typed.specs.UseKinds.{use_at}

abbrev pub uses_in : Parts → List VariableUse
uses_in parts = map use_of parts.uses.items

-- the use k is marked, or one of the operations from the number i on forbids it
abbrev pub is_marked_or_forbidden : GraphOf → List VariableUse
    → List Operation → List Bool → ℕ → ℕ → Bool
is_marked_or_forbidden g uses operations marks i k =
    slice_index_or marks k false || is_forbidden g i (drop i operations) (use_at uses k)

-- says what the span forbids is marked now, and needs no more looking at
abbrev pub MarksForbidden : List rust-use.VariableUse → OperationSpan
    → List Bool → List Bool → Type 0
MarksForbidden uses b old new = (g : GraphOf) (k : ℕ) → IsReached g b → k < length uses
    → is_marked_or_forbidden g (map use_of uses) (operations_in b) new (b.first + b.count) k
    ≡ is_marked_or_forbidden g (map use_of uses) (operations_in b) old b.first k

-- exactly the uses are marked that an operation forbids
abbrev pub AreForbidden : GraphOf → Parts → List Bool → Type 0
AreForbidden g parts marks = (k : ℕ) → k < length parts.uses.items → slice_index_or marks k false
    ≡ is_forbidden g 0 (document_of parts.document.now).operations (use_at (uses_in parts) k)
