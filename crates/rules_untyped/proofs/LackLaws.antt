-- Lemmas on what the operations of a span lack, and what they use.
use Rattle.std.proofs.Common.{◌≡◌, ◌∙◌, ◌+◌, ◌<◌, ◌≤◌, ap, refl, ℕ, Bool, true, false, not, ◌||◌, List, Option, Some, length, drop, slice_get, slice_index, bytes_eq, arith}
use Rattle.std.specs.Prelude.{◌&&◌, nat_lt}
use Rattle.std.specs.List.{list_any}
use Rattle.std.specs.Option.{option_map_or}
use Rattle.std.specs.HashMap.{get_by}
use Rattle.std.specs.Borrow.{Bor}
use Rattle.gq_parser.specs.Tree.{Operation}
use Rattle.rules_parts.specs.declared.part.Owner.{Owner}
use Rattle.rules_parts.specs.declared.part.Owner.TheVariants as owner
use Rattle.rules_parts.specs.Parts.{VariableUse}
use Rattle.rules_spreads.specs.declared.operation_set.OperationSet.{OperationSet}
use Rattle.rules_spreads.specs.Graphs.{GraphOf, row}
use Rattle.rules_spreads.specs.Reach.{is_among}
use Rattle.rules_spreads.specs.OperationSpans.{has, set_at, any_below, is_missing_in, is_missing_at, misses, AreReachers}
use Rattle.rules_spreads.proofs.MissingLaws.{missing-in_operation, missing-in_fragment, in_span, span_noted}
use Rattle.rules_untyped.specs.declared.variable_use_index.VariableUseIndex as rust
use Rattle.rules_spreads.specs.OwnerLists.{is_same_owner, owner_rows}
use Rattle.rules_untyped.specs.VariableReach.{is_within, defines}
use Rattle.rules_untyped.specs.AllVariableUsesDefined.{lacks, one_lacks}
use Rattle.rules_untyped.specs.VariableUseIndex.{is_numbered}
use Rattle.rules_untyped.specs.UseRows.{use_at, IsUseTable, defines_at}
use Rattle.rules_untyped.proofs.ReachLaws.{stands_alone, defines-use}

-- the note of a place that stands in one row alone
missing-in : (g : GraphOf) (first count s : ℕ) (rows : GraphOf) (reached : List OperationSet) (set : OperationSet) (old mid new : Bool) (o : Owner) → AreReachers g first count reached
    → ((q : Owner) → is_among s (row rows q) ≡ is_same_owner q o)
    → mid ≡ (any_below (is_missing_at rows.operations first set s) count || old) → new ≡ (any_below (is_missing_in rows.fragments reached set s) (length reached) || mid)
    → new ≡ (any_below (misses g first o set) count || old)
missing-in g first count s rows reached set old mid new (owner.Operation k) are alone by_own by_all =
    missing-in_operation g first count k s (length reached) rows.operations rows.fragments reached set old mid new (λ q. alone (owner.Operation q)) (λ j. alone (owner.Fragment j)) by_own by_all
missing-in g first count s rows reached set old mid new (owner.Fragment f) are alone by_own by_all =
    missing-in_fragment g first count f s rows.operations rows.fragments reached set old mid new are (λ q. alone (owner.Operation q)) (λ j. alone (owner.Fragment j)) by_own by_all

misses-by : (g : GraphOf) (first i : ℕ) (set : OperationSet) (o : Owner) → misses g first o set i ≡ (is_within g (first + i) o && not (has set i))
misses-by g first i set (owner.Operation k) = refl
misses-by g first i set (owner.Fragment j) = refl

-- the note of a use after a span of operations
pub lacks_span : (g : GraphOf) (uses : List VariableUse) (table : rust.VariableUseIndex) → IsUseTable uses table → (k : ℕ) → k < length uses → (operations : List Operation) (first count : ℕ) (reached sets : List OperationSet) (old mid new : Bool)
    → AreReachers g first count reached → first + count ≤ length operations
    → ((n m : ℕ) → has (set_at sets n) m ≡ (nat_lt m count && defines_at (λ q. get_by (λ (p : Bor (List ℕ)). bytes_eq q p.now) table.names) n operations (first + m)))
    → mid ≡ (any_below (is_missing_at (owner_rows table.rows).operations first (set_at sets (slice_index table.numbers.items (slice_index table.stand_ins.items k))) (slice_index table.stand_ins.items k)) count || old)
    → new ≡ (any_below (is_missing_in (owner_rows table.rows).fragments reached (set_at sets (slice_index table.numbers.items (slice_index table.stand_ins.items k))) (slice_index table.stand_ins.items k)) (length reached) || mid)
    → (new || one_lacks g (first + count) (drop (first + count) operations) (use_at uses k)) ≡ (old || one_lacks g first (drop first operations) (use_at uses k))
lacks_span g uses table holds k within operations first count reached sets old mid new are inside defined by_own by_all =
    span_noted old new (any_below (misses g first u.owner set) count) (one_lacks g (first + count) (drop (first + count) operations) u) (one_lacks g first (drop first operations) u) _
    (missing-in g first count s (owner_rows table.rows) reached set old mid new u.owner are (stands_alone uses table holds k within) by_own by_all)
    (in_span (λ j os. one_lacks g j os u) (λ j o. lacks g j o u) (λ j o os. refl) operations first count (misses g first u.owner set) inside agree)
    refl where
      u : VariableUse
      u = use_at uses k

      s : ℕ
      s = slice_index table.stand_ins.items k

      n : ℕ
      n = slice_index table.numbers.items s

      set : OperationSet
      set = set_at sets n

      agree : (i : ℕ) (o : Operation) → i < count → slice_get operations (first + i) ≡ Some o → misses g first u.owner set i ≡ lacks g (first + i) o u
      agree i o lt is =
          let number : List ℕ → Option ℕ = λ q. get_by (λ (p : Bor (List ℕ)). bytes_eq q p.now) table.names in
          let below : nat_lt i count ≡ true = grind arith in
          let there : defines_at number n operations (first + i) ≡ list_any (is_numbered number n) o.variables = ap (λ (p : Option Operation). option_map_or (λ (q : Operation). list_any (is_numbered number n) q.variables) p false) is in
          let all : has set i ≡ defines u.name o = defined n i ∙ (ap (λ b. b && defines_at number n operations (first + i)) below ∙ (there ∙ defines-use uses table holds k within o)) in
          misses-by g first i set u.owner ∙ ap (λ b. is_within g (first + i) u.owner && not b) all
