-- Lemmas on which variables an operation uses, by the table of uses.
use Rattle.std.proofs.Common.{◌≡◌, ◌∙◌, ◌+◌, ◌<◌, ap, sym, refl, suc, ℕ, Bool, true, eqb, List, [], ◌∷◌, Option, Some, None, length, slice_index, bytes_eq, arith, ⊎_elim}
use Rattle.std.specs.List.{list_any}
use Rattle.std.specs.Prelude.{nat_lt}
use Rattle.std.proofs.lemmas.List.{get_or_past}
use Rattle.std.proofs.lemmas.Bool.{eqb-true, eq-eqb, false≢true, or_cases, or_left, or_right, and_from, and_parts, both_ways, cases_lt, lt-ltb}
use Rattle.std.proofs.lemmas.List.Folds.{list_any_at}
use Rattle.rules_parts.specs.declared.part.Owner.{Owner}
use Rattle.rules_parts.specs.declared.part.Owner.TheVariants as owner
use Rattle.rules_parts.specs.Parts.{VariableUse}
use Rattle.rules_spreads.specs.Graphs.{GraphOf, row, row_at}
use Rattle.rules_spreads.specs.Reach.{is_among, reaches}
use Rattle.rules_spreads.specs.declared.operation_set.OperationSet.{OperationSet}
use Rattle.rules_spreads.specs.OperationSpans.{has, no_operations, set_at, any_below, AreReachers}
use Rattle.rules_spreads.proofs.SpanLaws.{has-none}
use Rattle.rules_spreads.proofs.MissingLaws.{any_below-at, passing}
use Rattle.rules_untyped.specs.declared.variable_use_index.VariableUseIndex as rust
use Rattle.rules_untyped.specs.VariableReach.{is_within}
use Rattle.rules_untyped.specs.AllVariablesUsed.{uses_there}
use Rattle.rules_untyped.specs.VariableUseIndex.{number_in, is_number, has_if}
use Rattle.rules_spreads.specs.OwnerLists.{owner_rows}
use Rattle.rules_untyped.specs.UseRows.{no_use, use_at, IsUseTable, is_number_among, is_used_in, is_used_at, has_number}
use Rattle.rules_untyped.proofs.ReachLaws.{same_tests, number-use}

-- a number of the list that passes
record AnyNumber (p : ℕ → Bool) (xs : List ℕ) : Type 0 where
  pub x : ℕ
  pub among : is_among x xs ≡ true
  pub passes : p x ≡ true

any_number : (p : ℕ → Bool) (xs : List ℕ) → list_any p xs ≡ true → AnyNumber p xs
any_number p [] h = absurd (false≢true h)
any_number p (x ∷ xs) h =
    ⊎_elim (λ e. record { x = x; among = or_left (eqb x x) (is_among x xs) (eq-eqb x x refl); passes = e })
    (λ e. let r = any_number p xs e in record { x = r.x; among = or_right (eqb x r.x) (is_among r.x xs) r.among; passes = r.passes })
    (or_cases (p x) (list_any p xs) h)

any_here : (p : ℕ → Bool) (xs : List ℕ) (x : ℕ) → is_among x xs ≡ true → p x ≡ true → list_any p xs ≡ true
any_here p [] x there passes = there
any_here p (y ∷ ys) x there passes =
    ⊎_elim (λ e. or_left (p y) (list_any p ys) (ap p (eqb-true y x e) ∙ passes))
    (λ e. or_right (p y) (list_any p ys) (any_here p ys x e passes))
    (or_cases (eqb y x) (is_among x ys) there)

-- a use that passes
record AnyUse (p : VariableUse → Bool) (uses : List VariableUse) : Type 0 where
  pub k : ℕ
  pub within : k < length uses
  pub passes : p (use_at uses k) ≡ true

any_use : (p : VariableUse → Bool) (uses : List VariableUse) → list_any p uses ≡ true → AnyUse p uses
any_use p [] h = absurd (false≢true h)
any_use p (u ∷ us) h =
    ⊎_elim (λ e. record { k = 0; within = omega arith; passes = e })
    (λ e. let r = any_use p us e in record { k = suc r.k; within = let w = r.within in omega arith; passes = r.passes })
    (or_cases (p u) (list_any p us) h)

module _ (g : GraphOf) (uses : List VariableUse) (table : rust.VariableUseIndex) (holds : IsUseTable uses table) (first count : ℕ) (reached : List OperationSet) (are : AreReachers g first count reached) (m : ℕ) (of_span : m < count) (name : List ℕ) where
  from_row : (o : Owner) → is_within g (first + m) o ≡ true → (n : ℕ) → number_in uses name ≡ Some n → is_number_among table.numbers.items n (row (owner_rows table.rows) o) ≡ true → list_any (uses_there g (first + m) name) uses ≡ true
  from_row o inside n at h =
      let r = any_number (λ s. eqb n (slice_index table.numbers.items s)) (row (owner_rows table.rows) o) h in
      let sound = holds.sound r.x o r.among in
      let number : is_number (slice_index table.numbers.items r.x) (number_in uses name) ≡ true = rw at (eq-eqb (slice_index table.numbers.items r.x) n (sym (eqb-true n (slice_index table.numbers.items r.x) r.passes))) in
      let named : bytes_eq name (use_at uses r.x).name ≡ true = sym (number-use uses table holds r.x sound.0 name) ∙ number in
      let there : is_within g (first + m) (use_at uses r.x).owner ≡ true = ap (is_within g (first + m)) sound.1 ∙ inside in
      list_any_at (uses_there g (first + m) name) uses r.x no_use sound.0 (and_from (is_within g (first + m) (use_at uses r.x).owner) (bytes_eq name (use_at uses r.x).name) there named)

  from_rows : (n : ℕ) → number_in uses name ≡ Some n → has_number table first count reached m n ≡ true → list_any (uses_there g (first + m) name) uses ≡ true
  from_rows n at h =
      ⊎_elim
      (λ e. let r = passing (is_used_in table.numbers.items n (owner_rows table.rows).fragments reached m) (length reached) e in
      let parts = and_parts (is_number_among table.numbers.items n (row_at (owner_rows table.rows).fragments r.at)) (has (set_at reached r.at) m) r.passes in
      from_row (owner.Fragment r.at) (and_parts (nat_lt m count) (reaches g (owner.Operation (first + m)) r.at) (sym (are r.at m) ∙ parts.1)).1 n at parts.0)
      (λ e. let r = passing (is_used_at table.numbers.items n (owner_rows table.rows).operations first m) count e in
      let parts = and_parts (is_number_among table.numbers.items n (row_at (owner_rows table.rows).operations (first + r.at))) (eqb m r.at) r.passes in
      from_row (owner.Operation (first + m)) (eq-eqb (first + m) (first + m) refl) n at (ap (λ (i : ℕ). is_number_among table.numbers.items n (row_at (owner_rows table.rows).operations (first + i))) (eqb-true m r.at parts.1) ∙ parts.0))
      (or_cases (any_below (is_used_in table.numbers.items n (owner_rows table.rows).fragments reached m) (length reached)) (any_below (is_used_at table.numbers.items n (owner_rows table.rows).operations first m) count) h)

  -- a row within reach is the operation's own or one of those reached
  in_reach : (o : Owner) (n : ℕ) → is_within g (first + m) o ≡ true → is_number_among table.numbers.items n (row (owner_rows table.rows) o) ≡ true → has_number table first count reached m n ≡ true
  in_reach (owner.Operation k) n inside h =
      or_right (any_below (is_used_in table.numbers.items n (owner_rows table.rows).fragments reached m) (length reached)) _
      (any_below-at (is_used_at table.numbers.items n (owner_rows table.rows).operations first m) count m of_span
      (and_from _ (eqb m m) (ap (λ q. is_number_among table.numbers.items n (row_at (owner_rows table.rows).operations q)) (eqb-true (first + m) k inside) ∙ h) (eq-eqb m m refl)))
  in_reach (owner.Fragment j) n inside h =
      let there : has (set_at reached j) m ≡ true = are j m ∙ and_from (nat_lt m count) (reaches g (owner.Operation (first + m)) j) (lt-ltb m count of_span) inside in
      or_left _ (any_below (is_used_at table.numbers.items n (owner_rows table.rows).operations first m) count)
      (⊎_elim
      (λ lt. any_below-at (is_used_in table.numbers.items n (owner_rows table.rows).fragments reached m) (length reached) j lt (and_from (is_number_among table.numbers.items n (row_at (owner_rows table.rows).fragments j)) (has (set_at reached j) m) h there))
      (λ past. absurd (both_ways (has no_operations m) (has-none m) (ap (λ (t : OperationSet). has t m) (sym (get_or_past reached j no_operations past)) ∙ there)))
      (cases_lt j (length reached)))

  to_rows : (n : ℕ) → number_in uses name ≡ Some n → AnyUse (uses_there g (first + m) name) uses → has_number table first count reached m n ≡ true
  to_rows n at r =
      let parts = and_parts (is_within g (first + m) (use_at uses r.k).owner) (bytes_eq name (use_at uses r.k).name) r.passes in
      let number = rw at at (number-use uses table holds r.k r.within name ∙ parts.1) in
      let same : slice_index table.numbers.items r.k ≡ n = eqb-true (slice_index table.numbers.items r.k) n number in
      let s = slice_index table.stand_ins.items r.k in
      let standing : n ≡ slice_index table.numbers.items s = sym same ∙ sym (holds.alike r.k r.within) in
      in_reach (use_at uses r.k).owner n parts.0 (any_here (λ q. eqb n (slice_index table.numbers.items q)) (row (owner_rows table.rows) (use_at uses r.k).owner) s (holds.stood r.k r.within) (eq-eqb n (slice_index table.numbers.items s) standing))

  -- the sets have exactly what is used
  pub used_by : (sets : List OperationSet) → ((n : ℕ) → has (set_at sets n) m ≡ has_number table first count reached m n) → has_if sets m (number_in uses name) ≡ list_any (uses_there g (first + m) name) uses
  used_by sets marked = same_tests _ _ (there (number_in uses name) refl) (λ h. back (number_in uses name) refl (any_use (uses_there g (first + m) name) uses h)) where
    there : (o : Option ℕ) → number_in uses name ≡ o → has_if sets m o ≡ true → list_any (uses_there g (first + m) name) uses ≡ true
    there None at h = absurd (false≢true h)
    there (Some n) at h = from_rows n at (sym (marked n) ∙ h)

    back : (o : Option ℕ) → number_in uses name ≡ o → AnyUse (uses_there g (first + m) name) uses → has_if sets m o ≡ true
    back None at r =
        let parts = and_parts (is_within g (first + m) (use_at uses r.k).owner) (bytes_eq name (use_at uses r.k).name) r.passes in
        absurd (false≢true (rw at at (number-use uses table holds r.k r.within name ∙ parts.1)))
    back (Some n) at r = marked n ∙ to_rows n at r
