-- Lemmas on what is missing from sets, by the owner of a place.
use Rattle.std.proofs.Common.{◌≡◌, ◌∙◌, sym, ap, refl, ℕ, zero, suc, ◌+◌, ◌<◌, ◌≤◌, Bool, true, false, not, ◌||◌, eqb, List, [], ◌∷◌, length, drop, Some, slice_get, arith, add-one, add-zero, ⊎_elim}
use Rattle.std.specs.Prelude.{◌&&◌, nat_lt}
use Rattle.std.proofs.lemmas.Bool.{false≢true, both_ways, eqb-true, eq-eqb, cases_eq, cases_lt, cases_Bool, or_cases, or_left, or_right, and_from, and_parts, not-true, not_from_false}
use Rattle.std.proofs.lemmas.List.{get_or_past}
use Rattle.rules_parts.specs.declared.part.Owner.TheVariants as owner
use Rattle.rules_spreads.specs.declared.operation_set.OperationSet.{OperationSet}
use Rattle.rules_spreads.specs.Graphs.{GraphOf, row_at}
use Rattle.rules_spreads.specs.Reach.{is_among, reaches}
use Rattle.rules_spreads.specs.OperationSpans.{has, is_within, no_operations, set_at, AreReachers, any_below, is_missing_in, is_missing_at, misses}
use Rattle.rules_spreads.proofs.SpanLaws.{has-none, within-has, within-from}
use Rattle.rules_spreads.proofs.ReacherLaws.{same_tests}

-- ---- a number below a bound that passes

pub any_below-agree : (p q : ℕ → Bool) (n : ℕ) → ((i : ℕ) → i < n → p i ≡ q i) → any_below p n ≡ any_below q n
any_below-agree p q zero agree = refl
any_below-agree p q (suc n) agree = ap (λ b. b || p n) (any_below-agree p q n (λ i lt. agree i (omega arith))) ∙ ap (λ b. any_below q n || b) (agree n (omega arith))

pub any_below-never : (p : ℕ → Bool) (n : ℕ) → ((i : ℕ) → i < n → p i ≡ false) → any_below p n ≡ false
any_below-never p zero never = refl
any_below-never p (suc n) never = ap (λ b. b || p n) (any_below-never p n (λ i lt. never i (omega arith))) ∙ never n (omega arith)

pub any_below-at : (p : ℕ → Bool) (n i : ℕ) → i < n → p i ≡ true → any_below p n ≡ true
any_below-at p zero i lt passes = absurd (omega arith)
any_below-at p (suc n) i lt passes = ⊎_elim
    (λ e. or_right (any_below p n) (p n) (ap p (sym e) ∙ passes))
    (λ n'. or_left (any_below p n) (p n) (any_below-at p n i (omega arith) passes))
    (cases_eq i n)

pub record Passing (p : ℕ → Bool) (n : ℕ) : Type 0 where
  pub at : ℕ
  pub within : at < n
  pub passes : p at ≡ true

pub passing : (p : ℕ → Bool) (n : ℕ) → any_below p n ≡ true → Passing p n
passing p zero h = absurd (false≢true h)
passing p (suc n) h = ⊎_elim
    (λ e. let r = passing p n e in record { at = r.at; within = let w = r.within in omega (arith, w); passes = r.passes })
    (λ e. record { at = n; within = omega arith; passes = e })
    (or_cases (any_below p n) (p n) h)

-- one number more
pub below_more : (p : ℕ → Bool) (n : ℕ) (new old initial here : Bool) → new ≡ (here || old) → here ≡ p n → old ≡ (any_below p n || initial) → new ≡ (any_below p (n + 1) || initial)
below_more p n new old initial here of_new of_here of_old = of_new ∙ rw (add-one, of_here, of_old) (by (p n) (any_below p n) initial) where
  by : (a b c : Bool) → (a || (b || c)) ≡ ((b || a) || c)
  by true true c = refl
  by true false c = refl
  by false true c = refl
  by false false c = refl

-- ---- what is missing from a set

-- one operation alone is within a set that has it
pub within-alone : (t set : OperationSet) (k : ℕ) → ((i : ℕ) → has t i ≡ eqb i k) → is_within t set ≡ has set k
within-alone t set k alone = same_tests (is_within t set) (has set k)
    (λ h. within-has t set k h (alone k ∙ eq-eqb k k refl))
    (λ h. within-from t set (λ i there. ap (has set) (eqb-true i k (sym (alone i) ∙ there)) ∙ h))

-- none of those that reach a fragment is missing exactly where all are in the set
pub reached-missing : (g : GraphOf) (first count f : ℕ) (reached : List OperationSet) (set : OperationSet) → AreReachers g first count reached
    → any_below (misses g first (owner.Fragment f) set) count ≡ not (is_within (set_at reached f) set)
reached-missing g first count f reached set are = same_tests (any_below (misses g first (owner.Fragment f) set) count) (not (is_within (set_at reached f) set)) there back where
  there : any_below (misses g first (owner.Fragment f) set) count ≡ true → not (is_within (set_at reached f) set) ≡ true
  there h =
      let r = passing (misses g first (owner.Fragment f) set) count h in
      let parts = and_parts (reaches g (owner.Operation (first + r.at)) f) (not (has set r.at)) r.passes in
      let below : nat_lt r.at count ≡ true = let w = r.within in grind (arith, w) in
      let in_reached : has (set_at reached f) r.at ≡ true = are f r.at ∙ and_from (nat_lt r.at count) (reaches g (owner.Operation (first + r.at)) f) below parts.0 in
      let lacks : has set r.at ≡ false = not-true (has set r.at) parts.1 in
      ⊎_elim
      (λ within. absurd (both_ways (has set r.at) lacks (within-has (set_at reached f) set r.at within in_reached)))
      (λ e. not_from_false (is_within (set_at reached f) set) e)
      (cases_Bool (is_within (set_at reached f) set))

  back : not (is_within (set_at reached f) set) ≡ true → any_below (misses g first (owner.Fragment f) set) count ≡ true
  back h = ⊎_elim
      (λ e. e)
      (λ none. absurd (both_ways (is_within (set_at reached f) set) (not-true (is_within (set_at reached f) set) h) (within-from (set_at reached f) set (λ i there. each none i there))))
      (cases_Bool (any_below (misses g first (owner.Fragment f) set) count)) where
        each : any_below (misses g first (owner.Fragment f) set) count ≡ false → (i : ℕ) → has (set_at reached f) i ≡ true → has set i ≡ true
        each none i there =
            let parts = and_parts (nat_lt i count) (reaches g (owner.Operation (first + i)) f) (sym (are f i) ∙ there) in
            let below : i < count = let b = parts.0 in grind (arith, b) in
            ⊎_elim (λ e. e)
            (λ e. absurd (both_ways (any_below (misses g first (owner.Fragment f) set) count) none (any_below-at (misses g first (owner.Fragment f) set) count i below (and_from (reaches g (owner.Operation (first + i)) f) (not (has set i)) parts.1 (not_from_false (has set i) e)))))
            (cases_Bool (has set i))

-- a place that stands in one operation's row alone
pub missing-in_operation : (g : GraphOf) (first count k s m : ℕ) (operations fragments : List (List ℕ)) (reached : List OperationSet) (set : OperationSet) (old mid new : Bool)
    → ((q : ℕ) → is_among s (row_at operations q) ≡ eqb q k) → ((j : ℕ) → is_among s (row_at fragments j) ≡ false)
    → mid ≡ (any_below (is_missing_at operations first set s) count || old) → new ≡ (any_below (is_missing_in fragments reached set s) m || mid)
    → new ≡ (any_below (misses g first (owner.Operation k) set) count || old)
missing-in_operation g first count k s m operations fragments reached set old mid new own others by_own by_all =
    by_all ∙ (ap (λ b. b || mid) (any_below-never (is_missing_in fragments reached set s) m (λ j lt. ap (λ b. b && not (is_within (set_at reached j) set)) (others j)))
    ∙ (by_own ∙ ap (λ b. b || old) (any_below-agree (is_missing_at operations first set s) (misses g first (owner.Operation k) set) count (λ i lt. ap (λ b. b && not (has set i)) (own (first + i))))))

-- one that stands in one fragment's row alone
pub missing-in_fragment : (g : GraphOf) (first count f s : ℕ) (operations fragments : List (List ℕ)) (reached : List OperationSet) (set : OperationSet) (old mid new : Bool) → AreReachers g first count reached
    → ((q : ℕ) → is_among s (row_at operations q) ≡ false) → ((j : ℕ) → is_among s (row_at fragments j) ≡ eqb j f)
    → mid ≡ (any_below (is_missing_at operations first set s) count || old) → new ≡ (any_below (is_missing_in fragments reached set s) (length reached) || mid)
    → new ≡ (any_below (misses g first (owner.Fragment f) set) count || old)
missing-in_fragment g first count f s operations fragments reached set old mid new are others own by_own by_all =
    by_all ∙ (ap (λ b. any_below (is_missing_in fragments reached set s) (length reached) || b) (by_own ∙ ap (λ b. b || old) (any_below-never (is_missing_at operations first set s) count (λ i lt. ap (λ b. b && not (has set i)) (others (first + i)))))
    ∙ ap (λ b. b || old) (same_tests (any_below (is_missing_in fragments reached set s) (length reached)) (not (is_within (set_at reached f) set)) there back ∙ sym (reached-missing g first count f reached set are))) where
      there : any_below (is_missing_in fragments reached set s) (length reached) ≡ true → not (is_within (set_at reached f) set) ≡ true
      there h =
          let r = passing (is_missing_in fragments reached set s) (length reached) h in
          let parts = and_parts (is_among s (row_at fragments r.at)) (not (is_within (set_at reached r.at) set)) r.passes in
          let same : r.at ≡ f = eqb-true r.at f (sym (own r.at) ∙ parts.0) in
          ap (λ (j : ℕ). not (is_within (set_at reached j) set)) (sym same) ∙ parts.1

      back : not (is_within (set_at reached f) set) ≡ true → any_below (is_missing_in fragments reached set s) (length reached) ≡ true
      back h = ⊎_elim
          (λ lt. any_below-at (is_missing_in fragments reached set s) (length reached) f lt (and_from (is_among s (row_at fragments f)) (not (is_within (set_at reached f) set)) (own f ∙ eq-eqb f f refl) h))
          (λ past. absurd (both_ways (is_within (set_at reached f) set) (not-true (is_within (set_at reached f) set) h) (within-from (set_at reached f) set (λ i there. absurd (both_ways (has no_operations i) (has-none i) (ap (λ (t : OperationSet). has t i) (sym (get_or_past reached f no_operations past)) ∙ there))))))
          (cases_lt f (length reached))

-- ---- a test of operations in turn, a span at a time

-- says what stands at a place
pub record Standing {A : Type 0} (xs : List A) (i : ℕ) : Type 0 where
  pub x : A
  pub is : slice_get xs i ≡ Some x
  pub left : drop i xs ≡ x ∷ drop (suc i) xs

pub standing : {A : Type 0} (xs : List A) (i : ℕ) → i < length xs → Standing xs i
standing [] i lt = absurd (omega arith)
standing (x ∷ xs) zero lt = record { x = x; is = refl; left = refl }
standing (x ∷ xs) (suc i) lt = let r = standing xs i (omega arith) in record { x = r.x; is = r.is; left = r.left }

-- a test that is true of a list of operations where it is so of one, which has the number k, or of those behind it
pub in_span : {A : Type 0} (all : ℕ → List A → Bool) (one : ℕ → A → Bool) → ((k : ℕ) (x : A) (xs : List A) → all k (x ∷ xs) ≡ (one k x || all (k + 1) xs))
    → (xs : List A) (first count : ℕ) (test : ℕ → Bool) → first + count ≤ length xs → ((i : ℕ) (x : A) → i < count → slice_get xs (first + i) ≡ Some x → test i ≡ one (first + i) x)
    → all first (drop first xs) ≡ (any_below test count || all (first + count) (drop (first + count) xs))
in_span all one next xs first zero test within agree = rw add-zero refl
in_span all one next xs first (suc n) test within agree =
    let here = standing xs (first + n) (omega arith) in
    let before = in_span all one next xs first n test (omega arith) (λ i x lt is. agree i x (omega arith) is) in
    let step : all (first + n) (drop (first + n) xs) ≡ (test n || all (suc (first + n)) (drop (suc (first + n)) xs)) =
    ap (all (first + n)) here.left ∙ (next (first + n) here.x (drop (suc (first + n)) xs) ∙ rw (add-one, ← agree n here.x (omega arith) here.is) refl) in
    let later : first + suc n ≡ suc (first + n) = omega arith in
    before ∙ (ap (λ b. any_below test n || b) step ∙ (assoc (any_below test n) (test n) (all (suc (first + n)) (drop (suc (first + n)) xs)) ∙ ap (λ (k : ℕ). (any_below test n || test n) || all k (drop k xs)) (sym later))) where
      assoc : (a b c : Bool) → (a || (b || c)) ≡ ((a || b) || c)
      assoc true b c = refl
      assoc false b c = refl

-- the note of a place, and what is left to note, after a span
pub span_noted : (old new span rest before total : Bool) → new ≡ (span || old) → before ≡ (span || rest) → (old || before) ≡ total → (new || rest) ≡ total
span_noted old new span rest before total of_new of_before of_total = ap (λ b. b || rest) of_new ∙ (by span old rest ∙ (ap (λ b. old || b) (sym of_before) ∙ of_total)) where
  by : (a b c : Bool) → ((a || b) || c) ≡ (b || (a || c))
  by true true c = refl
  by true false c = refl
  by false true c = refl
  by false false c = refl
