-- Lemmas on which operations of a span allow which uses.
use Rattle.std.proofs.Common.{◌≡◌, ◌∙◌, ◌+◌, ◌<◌, ◌≤◌, ap, sym, refl, ℕ, Bool, true, false, not, ◌||◌, cond, eqb, List, ◌∷◌, Some, length, drop, slice_get, bytes_eq, ⊎_elim}
use Rattle.std.specs.Prelude.{◌&&◌}
use Rattle.std.proofs.lemmas.Bool.{eq-eqb, ne_eqb, cases_eq}
use Rattle.std.proofs.lemmas.Cmp.{nat_list_eq_equiv}
use Rattle.gq_parser.specs.Tree.{VariableDefinition, Operation}
use Rattle.rules_parts.specs.declared.part.Owner.{Owner}
use Rattle.rules_parts.specs.declared.part.Owner.TheVariants as owner
use Rattle.rules_parts.specs.Parts.{VariableUse}
use Rattle.rules_spreads.specs.declared.operation_set.OperationSet.{OperationSet}
use Rattle.rules_spreads.specs.Graphs.{GraphOf, row_at}
use Rattle.rules_spreads.specs.Reach.{is_among}
use Rattle.rules_spreads.specs.OperationSpans.{has, set_at, any_below, is_missing_in, is_missing_at, misses, AreReachers}
use Rattle.rules_spreads.proofs.MissingLaws.{missing-in_operation, missing-in_fragment, in_span, span_noted}
use Rattle.rules_typed.specs.AllVariableUsagesAreAllowed.{forbids, includes, is_forbidden}
use Rattle.rules_spreads.specs.OwnerLists.{is_same_owner}
use Rattle.rules_typed.specs.UseKinds.{is_forbidden_use}
use Rattle.rules_typed.proofs.KindLaws.{forbids-next}

-- the operations of a set after one was put
pub put_use : (old new : List OperationSet) (value : OperationSet) (place r m number : ℕ) (is_in wanted : Bool) → set_at new r ≡ cond (eqb r place) value (set_at old r) → has value m ≡ cond (eqb m number) is_in (has (set_at old place) m) → (r ≡ place → is_in ≡ wanted)
    → has (set_at new r) m ≡ cond (eqb m number && eqb r place) wanted (has (set_at old r) m)
put_use old new value place r m number is_in wanted put of_value same = ap (λ (t : OperationSet). has t m) put ∙ ⊎_elim
    (λ e. rw (eq-eqb r place e, of_value, same e) (ap (λ (k : ℕ). cond (eqb m number) wanted (has (set_at old k) m)) (sym e) ∙ by (eqb m number) (has (set_at old r) m)))
    (λ n. rw (ne_eqb r place n) (none (eqb m number)))
    (cases_eq r place) where
      by : (a h : Bool) → cond a wanted h ≡ cond (a && true) wanted h
      by true h = refl
      by false h = refl

      none : (a : Bool) → has (set_at old r) m ≡ cond (a && false) wanted (has (set_at old r) m)
      none true = refl
      none false = refl

-- one use more of a variable's name
pub allow_more : (a hit rest wanted old new total : Bool) → new ≡ cond (a && hit) wanted old → cond (a && (hit || rest)) wanted old ≡ total → cond (a && rest) wanted new ≡ total
allow_more a hit rest wanted old new total of_new of_old = ap (λ b. cond (a && rest) wanted b) of_new ∙ (by a hit rest ∙ of_old) where
  by : (p q r : Bool) → cond (p && r) wanted (cond (p && q) wanted old) ≡ cond (p && (q || r)) wanted old
  by true true true = refl
  by true true false = refl
  by true false r = refl
  by false q r = refl

-- one variable more, before the others
pub variable_more : (v : VariableDefinition) (vs : List VariableDefinition) (u : VariableUse) (number : ℕ) (listed old new : Bool) → listed ≡ bytes_eq v.name u.name → old ≡ not (forbids vs u)
    → new ≡ cond (eqb number number && listed) (not (is_forbidden_use v u)) old → new ≡ not (forbids (v ∷ vs) u)
variable_more v vs u number listed old new of_listed of_old of_new =
    of_new ∙ (rw (of_listed, of_old, eq-eqb number number refl, nat_list_eq_equiv.symm v.name u.name) (by (bytes_eq u.name v.name) (is_forbidden_use v u) (forbids vs u)) ∙ ap (λ b. not b) (sym (forbids-next v vs u))) where
      by : (a b c : Bool) → cond a (not b) (not c) ≡ not (cond a b c)
      by true b c = refl
      by false b c = refl

-- a variable more says nothing of another operation
pub variable_other : (m number : ℕ) (listed wanted old new : Bool) → eqb m number ≡ false → new ≡ cond (eqb m number && listed) wanted old → new ≡ old
variable_other m number listed wanted old new other of_new = of_new ∙ rw other refl

-- ---- what is marked

missing-in : (g : GraphOf) (first count s : ℕ) (operations fragments : List (List ℕ)) (reached : List OperationSet) (set : OperationSet) (old mid new : Bool) (o : Owner) → AreReachers g first count reached
    → ((q : ℕ) → is_among s (row_at operations q) ≡ is_same_owner (owner.Operation q) o) → ((j : ℕ) → is_among s (row_at fragments j) ≡ is_same_owner (owner.Fragment j) o)
    → mid ≡ (any_below (is_missing_at operations first set s) count || old) → new ≡ (any_below (is_missing_in fragments reached set s) (length reached) || mid)
    → new ≡ (any_below (misses g first o set) count || old)
missing-in g first count s operations fragments reached set old mid new (owner.Operation k) are in_operations in_fragments by_own by_all =
    missing-in_operation g first count k s (length reached) operations fragments reached set old mid new in_operations in_fragments by_own by_all
missing-in g first count s operations fragments reached set old mid new (owner.Fragment f) are in_operations in_fragments by_own by_all =
    missing-in_fragment g first count f s operations fragments reached set old mid new are in_operations in_fragments by_own by_all

misses-by : (g : GraphOf) (first i : ℕ) (set : OperationSet) (o : Owner) → misses g first o set i ≡ (includes g (first + i) o && not (has set i))
misses-by g first i set (owner.Operation k) = refl
misses-by g first i set (owner.Fragment j) = refl

-- the mark of a use after a span of operations
pub forbids_span : (g : GraphOf) (u : VariableUse) (s : ℕ) (operations : List Operation) (first count : ℕ) (own_rows rows : List (List ℕ)) (reached : List OperationSet) (set : OperationSet) (old mid new : Bool)
    → AreReachers g first count reached → first + count ≤ length operations
    → ((q : ℕ) → is_among s (row_at own_rows q) ≡ is_same_owner (owner.Operation q) u.owner) → ((j : ℕ) → is_among s (row_at rows j) ≡ is_same_owner (owner.Fragment j) u.owner)
    → ((m : ℕ) (o : Operation) → m < count → slice_get operations (first + m) ≡ Some o → has set m ≡ not (forbids o.variables u))
    → mid ≡ (any_below (is_missing_at own_rows first set s) count || old) → new ≡ (any_below (is_missing_in rows reached set s) (length reached) || mid)
    → (new || is_forbidden g (first + count) (drop (first + count) operations) u) ≡ (old || is_forbidden g first (drop first operations) u)
forbids_span g u s operations first count own_rows rows reached set old mid new are inside in_operations in_fragments allowed by_own by_all =
    span_noted old new (any_below (misses g first u.owner set) count) (is_forbidden g (first + count) (drop (first + count) operations) u) (is_forbidden g first (drop first operations) u) _
    (missing-in g first count s own_rows rows reached set old mid new u.owner are in_operations in_fragments by_own by_all)
    (in_span (λ j os. is_forbidden g j os u) (λ j o. includes g j u.owner && forbids o.variables u) (λ j o os. refl) operations first count (misses g first u.owner set) inside agree)
    refl where
      twice : (b : Bool) → not (not b) ≡ b
      twice true = refl
      twice false = refl

      agree : (i : ℕ) (o : Operation) → i < count → slice_get operations (first + i) ≡ Some o → misses g first u.owner set i ≡ (includes g (first + i) u.owner && forbids o.variables u)
      agree i o lt is = misses-by g first i set u.owner ∙ ap (λ b. includes g (first + i) u.owner && b) (ap (λ b. not b) (allowed i o lt is) ∙ twice (forbids o.variables u))
