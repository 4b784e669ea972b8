-- Operations by spans of up to 64 in a row, and which of a span reach each fragment.
use Rattle.std.specs.Prelude.{◌≡◌, ℕ, zero, suc, ◌+◌, ◌-◌, ◌^◌, ◌<◌, Bool, true, false, not, ◌==◌, ◌&&◌, ◌||◌, nat_lt, List, [], ◌∷◌, length, bit_or, slice_index, slice_index_or}
use Rattle.std.specs.Int.{bit_at}
use Rattle.std.specs.List.{list_any}
use Rattle.rules_parts.specs.declared.part.Owner.{Owner}
use Rattle.rules_parts.specs.declared.part.Owner.TheVariants as owner
use Rattle.rules_spreads.specs.declared.operation_set.OperationSet.{OperationSet}
use Rattle.rules_spreads.specs.declared.edges.Edge.{Edge}
use Rattle.rules_spreads.specs.Graphs.{GraphOf, row_at}
use Rattle.rules_spreads.specs.Reach.{is_among, spreads, reaches, are_known}

-- the set has the operation of the number i in the span
abbrev pub has : OperationSet → ℕ → Bool
has s i = bit_at s.bits i == 1

-- the second set has all that the first has
abbrev pub is_within : OperationSet → OperationSet → Bool
is_within s t = bit_or s.bits t.bits == t.bits

-- gives what one of the sets has
abbrev pub both : OperationSet → OperationSet → OperationSet
both s t = record { bits = bit_or s.bits t.bits }

-- it has no operation beyond the span
abbrev pub IsOfSpan : OperationSet → Type 0
IsOfSpan s = s.bits < 2 ^ 64

abbrev pub no_operations : OperationSet
no_operations = record { bits = 0 }

-- the set of this number, empty where there is none
abbrev pub set_at : List OperationSet → ℕ → OperationSet
set_at sets j = slice_index_or sets j no_operations

-- ---- which operations reach

abbrev pub is_edge : ℕ → ℕ → Edge → Bool
is_edge f j e = e.from == f && e.to == j

-- one of these leads from the fragment f to the fragment j
abbrev pub has_edge : List Edge → ℕ → ℕ → Bool
has_edge edges f j = list_any (is_edge f j) edges

-- these are what the fragments spread, each what its row has
abbrev pub AreEdges : List (List ℕ) → List Edge → Type 0
AreEdges rows edges = (f j : ℕ) → has_edge edges f j ≡ is_among j (row_at rows f)

-- rows name fragments that there are, and these are what the fragments spread
pub record IsLinked (g : GraphOf) (edges : List Edge) : Type 0 where
  pub known : are_known g ≡ true
  pub linked : AreEdges g.fragments edges

-- each leads from a fragment below `count` to another below it
abbrev pub AreBelow : ℕ → List Edge → Type 0
AreBelow count edges = (k : ℕ) (e : Edge) → k < length edges
    → ((slice_index_or edges k e).from < count) × ((slice_index_or edges k e).to < count)

-- of each fragment those of the `count` operations from the first on that spread it
abbrev pub AreSpreaders : GraphOf → ℕ → ℕ → List OperationSet → Type 0
AreSpreaders g first count sets = (j i : ℕ)
    → has (set_at sets j) i ≡ (nat_lt i count && spreads g (owner.Operation (first + i)) j)

-- of each fragment those that reach it
abbrev pub AreReachers : GraphOf → ℕ → ℕ → List OperationSet → Type 0
AreReachers g first count sets = (j i : ℕ)
    → has (set_at sets j) i ≡ (nat_lt i count && reaches g (owner.Operation (first + i)) j)

-- ---- how they are found

-- gives how much could still be added to sets
abbrev pub room : List OperationSet → ℕ
room [] = 0
room (s ∷ ss) = (2 ^ 64 - s.bits) + room ss

-- says what passes a test for the fragment that an edge leads from does so for the one that it leads
-- to
abbrev pub Passes : List Edge → (ℕ → ℕ → Bool) → Type 0
Passes edges test = (k i : ℕ) (e : Edge) → k < length edges
    → test (slice_index_or edges k e).from i ≡ true → test (slice_index_or edges k e).to i ≡ true

-- all that the sets have passes a test
abbrev pub AllPass : (ℕ → ℕ → Bool) → List OperationSet → Type 0
AllPass test sets = (j i : ℕ) → has (set_at sets j) i ≡ true → test j i ≡ true

-- the new sets have all that the old ones have
abbrev pub AreKept : List OperationSet → List OperationSet → Type 0
AreKept old new = (j i : ℕ) → has (set_at old j) i ≡ true → has (set_at new j) i ≡ true

-- the first `count` edges lead to nothing more
abbrev pub AreFollowed : List Edge → ℕ → List OperationSet → Type 0
AreFollowed edges count sets = (k : ℕ) (e : Edge) → k < count → is_within
    (set_at sets (slice_index_or edges k e).from) (set_at sets (slice_index_or edges k e).to) ≡ true

-- ---- what is missing from sets

-- those places are noted that were, and those that pass
abbrev pub Notes : (ℕ → Bool) → List Bool → List Bool → Type 0
Notes test old new = (s : ℕ) → slice_index_or new s false ≡ (test s || slice_index_or old s false)

-- the set of a place, by the place's number
abbrev pub set_for : List ℕ → List OperationSet → ℕ → OperationSet
set_for numbers sets s = set_at sets (slice_index numbers s)

-- a number below this passes
abbrev pub any_below : (ℕ → Bool) → ℕ → Bool
any_below test zero = false
any_below test (suc n) = any_below test n || test n

-- the place s stands in the row of the fragment j, which operations reach that are not all in the set
abbrev pub is_missing_in : List (List ℕ) → List OperationSet → OperationSet → ℕ → ℕ → Bool
is_missing_in rows reached set s j =
    is_among s (row_at rows j) && not (is_within (set_at reached j) set)

-- it stands in the row of such a fragment
abbrev pub is_missing_in_fragments : List (List ℕ) → List OperationSet → OperationSet → ℕ → Bool
is_missing_in_fragments rows reached set s =
    any_below (is_missing_in rows reached set s) (length reached)

-- it stands in the row of the operation of the number i in the span, which is not in the set
abbrev pub is_missing_at : List (List ℕ) → ℕ → OperationSet → ℕ → ℕ → Bool
is_missing_at rows first set s i = is_among s (row_at rows (first + i)) && not (has set i)

-- the operation of the number i in the span has a part of this owner, and is not in the set
abbrev pub misses : GraphOf → ℕ → Owner → OperationSet → ℕ → Bool
misses g first (owner.Operation k) set i = first + i == k && not (has set i)
misses g first (owner.Fragment j) set i =
    reaches g (owner.Operation (first + i)) j && not (has set i)
