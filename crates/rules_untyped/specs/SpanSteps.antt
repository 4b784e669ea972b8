-- Definitions of what the rules on variables learn of a span of operations.
use Rattle.std.specs.Prelude.{◌≡◌, ◌<◌, ◌+◌, ◌||◌, ◌&&◌, ℕ, Bool, false, not, List, Option, length, map, filter, drop, nat_lt, slice_index, slice_index_or}
use Rattle.std.specs.List.{list_any}
use Rattle.gq_parser.specs.Tree.{Operation}
use Rattle.rules_parts.specs.declared.broken.EarliestViolation.{EarliestViolation}
use Rattle.rules_parts.specs.Broken.{BrokenOf}
use Rattle.rules_parts.specs.Parts.{VariableUse}
use Rattle.rules_spreads.specs.declared.operation_set.OperationSet.{OperationSet}
use Rattle.rules_spreads.specs.Graphs.{GraphOf}
use Rattle.rules_spreads.specs.OperationSpans.{has, set_at}
use Rattle.rules_spreads.specs.declared.operation_span.OperationSpan.{OperationSpan}
use Rattle.rules_spreads.specs.Operations.{operations_in, IsReached}
use Rattle.rules_untyped.specs.declared.variable_use_index.VariableUseIndex.{VariableUseIndex}
use Rattle.rules_untyped.specs.Named.{named_variable}
use Rattle.rules_untyped.specs.Scans.{with_all}
use Rattle.rules_untyped.specs.AllVariableUsesDefined.{one_lacks}
use Rattle.rules_untyped.specs.AllVariablesUsed.{unused_variables}
use Rattle.rules_untyped.specs.VariableUseIndex.{is_numbered, has_if}
use Rattle.rules_untyped.specs.UseRows.{use_at, IsUseTable, defines_at}

-- ---- sets of a span's operations, by the numbers of names

-- a variable of the operation has a name of the number n
abbrev pub has_numbered : (List ℕ → Option ℕ) → ℕ → Operation → Bool
has_numbered number n o = list_any (is_numbered number n) o.variables

-- the sets have what they had, and in the set n each operation m that passes
abbrev pub Adds : (ℕ → ℕ → Bool) → List OperationSet → List OperationSet → Type 0
Adds test old new = (n m : ℕ) → has (set_at new n) m ≡ (test n m || has (set_at old n) m)

-- of each number of a name the operations of the span that have a variable of that name
abbrev pub AreDefiners : OperationSpan → (List ℕ → Option ℕ) → List OperationSet → Type 0
AreDefiners b number sets = (n m : ℕ) → has (set_at sets n) m
    ≡ (nat_lt m b.count && defines_at number n (operations_in b) (b.first + m))

-- ---- uses whose variables operations lack

-- the use that stands for the use k is noted
abbrev pub is_noted : VariableUseIndex → List Bool → ℕ → Bool
is_noted table noted k = slice_index_or noted (slice_index table.stand_ins.items k) false

-- that is noted, or one of the operations from the number i on lacks the use
abbrev pub is_noted_or_lacks : GraphOf → List VariableUse
    → VariableUseIndex → List Operation → List Bool → ℕ → ℕ → Bool
is_noted_or_lacks g uses table operations noted i k =
    is_noted table noted k || one_lacks g i (drop i operations) (use_at uses k)

-- says what the span lacks is noted now, and needs no more looking at
abbrev pub NotesLacking : OperationSpan → VariableUseIndex → List Bool → List Bool → Type 0
NotesLacking b table old new = (g : GraphOf) (uses : List VariableUse) (k : ℕ)
    → IsUseTable uses table → IsReached g b → k < length uses
    → is_noted_or_lacks g uses table (operations_in b) new (b.first + b.count) k
    ≡ is_noted_or_lacks g uses table (operations_in b) old b.first k

-- exactly the uses are noted that one of these operations lacks
abbrev pub AreLacking : GraphOf → List Operation → VariableUseIndex → List Bool → Type 0
AreLacking g operations table noted = (uses : List VariableUse) → IsUseTable uses table → (k : ℕ)
    → k < length uses → is_noted table noted k ≡ one_lacks g 0 operations (use_at uses k)

-- ---- variables that operations never use

-- the operation's variables in whose sets the operation m of the span isn't
abbrev pub unused_by : List OperationSet → ℕ → (List ℕ → Option ℕ) → Operation → List BrokenOf
unused_by sets m number o =
    map named_variable (filter (λ v. not (has_if sets m (number v.name))) o.variables)

-- the span's unused variables are reported now, and need no more looking at
abbrev pub TellsUnused : OperationSpan → VariableUseIndex
    → EarliestViolation → EarliestViolation → Type 0
TellsUnused b table old new = (g : GraphOf) (uses : List VariableUse)
    → IsUseTable uses table → IsReached g b
    → with_all new
    (unused_variables g uses (b.first + b.count) (drop (b.first + b.count) (operations_in b)))
    ≡ with_all old (unused_variables g uses b.first (drop b.first (operations_in b)))
