-- Lemmas on what the table of uses says of each use, and what an operation lacks by it.
use Rattle.std.proofs.Common.{◌≡◌, ◌∙◌, ◌+◌, ◌<◌, ap, sym, refl, zero, suc, ℕ, Bool, true, false, ◌||◌, cond, List, [], ◌∷◌, Option, Some, None, length, get_or, map, slice_index, unwrap_or, bytes_eq, arith}
use Rattle.std.specs.List.{list_any}
use Rattle.std.specs.HashMap.{get_by}
use Rattle.std.specs.Borrow.{Bor}
use Rattle.std.proofs.lemmas.Bool.{eqb-true, eq-eqb, false≢true}
use Rattle.std.proofs.lemmas.Slice.Eq.{bytes_eq-Decides}
use Rattle.gq_schema.specs.Places.{place_from}
use Rattle.gq_parser.specs.Tree.{Operation}
use Rattle.rules_parts.specs.declared.part.Owner.{Owner}
use Rattle.rules_parts.specs.Parts.{VariableUse}
use Rattle.rules_spreads.specs.Reach.{is_among}
use Rattle.rules_untyped.specs.declared.variable_use_index.VariableUseIndex as rust
use Rattle.rules_spreads.specs.OwnerLists.{is_same_owner, owner_rows}
use Rattle.rules_spreads.specs.Graphs.{row}
use Rattle.rules_untyped.specs.VariableReach.{is_variable, defines}
use Rattle.rules_untyped.specs.VariableUseIndex.{is_use, number_in, is_number, is_numbered}
use Rattle.rules_untyped.specs.UseRows.{no_use, use_at, IsUseTable}
use Rattle.rules_untyped.proofs.UseLaws.{same_owner, is_same_owner-same}

-- two tests that are true together are one
pub same_tests : (a b : Bool) → (a ≡ true → b ≡ true) → (b ≡ true → a ≡ true) → a ≡ b
same_tests true b there back = sym (there refl)
same_tests false true there back = back refl
same_tests false false there back = refl

pub list_any-agree : {A : Type 0} (p q : A → Bool) (xs : List A) → ((x : A) → p x ≡ q x) → list_any p xs ≡ list_any q xs
list_any-agree p q [] agree = refl
list_any-agree p q (x ∷ xs) agree = rw (agree x, list_any-agree p q xs agree)

-- ---- numbers

get_or-map-within : {A B : Type 0} (f : A → B) (xs : List A) (k : ℕ) (d : B) (e : A) → k < length xs → get_or (map f xs) k d ≡ f (get_or xs k e)
get_or-map-within f [] k d e within = absurd (omega arith)
get_or-map-within f (x ∷ xs) zero d e within = refl
get_or-map-within f (x ∷ xs) (suc k) d e within = get_or-map-within f xs k d e (omega arith)

-- the first use that passes a test is there, where one passes
record Passes (test : VariableUse → Bool) (n : ℕ) (uses : List VariableUse) (m : ℕ) : Type 0 where
  pub at : ℕ
  pub is : m ≡ n + at
  pub passes : test (use_at uses at) ≡ true

place_passes : (test : VariableUse → Bool) (n : ℕ) (uses : List VariableUse) (m : ℕ) → place_from n test uses ≡ Some m → Passes test n uses m
place_passes test n [] m h = cc
place_passes test n (u ∷ us) m h = step (test u) refl h (place_passes test (n + 1) us m) where
  step : (b : Bool) → test u ≡ b → cond b (Some n) (place_from (n + 1) test us) ≡ Some m → (place_from (n + 1) test us ≡ Some m → Passes test (n + 1) us m) → Passes test n (u ∷ us) m
  step true e h behind = record { at = 0; is = let same : n ≡ m = cc in omega arith; passes = e }
  step false e h behind = let r = behind h in record { at = suc r.at; is = let same = r.is in omega arith; passes = r.passes }

record Placed (test : VariableUse → Bool) (n : ℕ) (uses : List VariableUse) : Type 0 where
  pub at : ℕ
  pub is : place_from n test uses ≡ Some at

place_there : (test : VariableUse → Bool) (n : ℕ) (uses : List VariableUse) (k : ℕ) → k < length uses → test (use_at uses k) ≡ true → Placed test n uses
place_there test n [] k within passes = absurd (omega arith)
place_there test n (u ∷ us) zero within passes = record { at = n; is = rw passes }
place_there test n (u ∷ us) (suc k) within passes = step (test u) refl (place_there test (n + 1) us k (omega arith) passes) where
  step : (b : Bool) → test u ≡ b → Placed test (n + 1) us → Placed test n (u ∷ us)
  step true e r = record { at = n; is = rw e }
  step false e r = record { at = r.at; is = rw e r.is }

module _ (uses : List VariableUse) (table : rust.VariableUseIndex) (holds : IsUseTable uses table) (k : ℕ) (within : k < length uses) where
  -- a name has the number of a use exactly where the use has the name
  pub number-use : (q : List ℕ) → is_number (slice_index table.numbers.items k) (number_in uses q) ≡ bytes_eq q (use_at uses k).name
  number-use q = same_tests _ _ there back where
    name : List ℕ
    name = (use_at uses k).name

    placed : Placed (is_use name) 0 uses
    placed = place_there (is_use name) 0 uses k within ((bytes_eq-Decides name name).1 refl)

    numbered : slice_index table.numbers.items k ≡ placed.at
    numbered = rw (holds.numbers, get_or-map-within (λ (u : VariableUse). unwrap_or (number_in uses u.name) 0) uses k 0 no_use within, placed.is)

    there : is_number (slice_index table.numbers.items k) (number_in uses q) ≡ true → bytes_eq q name ≡ true
    there h = by (number_in uses q) refl h where
      by : (o : Option ℕ) → number_in uses q ≡ o → is_number (slice_index table.numbers.items k) o ≡ true → bytes_eq q name ≡ true
      by None e h = absurd (false≢true h)
      by (Some m) e h =
          let same : placed.at ≡ m = sym numbered ∙ eqb-true (slice_index table.numbers.items k) m h in
          let one = place_passes (is_use q) 0 uses m e in
          let other = place_passes (is_use name) 0 uses placed.at placed.is in
          let at : one.at ≡ other.at = let p = one.is in let r = other.is in omega arith in
          let by_q : q ≡ (use_at uses one.at).name = (bytes_eq-Decides q (use_at uses one.at).name).0 one.passes in
          let by_name : name ≡ (use_at uses other.at).name = (bytes_eq-Decides name (use_at uses other.at).name).0 other.passes in
          (bytes_eq-Decides q name).1 (by_q ∙ (ap (λ j. (use_at uses j).name) at ∙ sym by_name))

    back : bytes_eq q name ≡ true → is_number (slice_index table.numbers.items k) (number_in uses q) ≡ true
    back h = rw ((bytes_eq-Decides q name).0 h, placed.is) (eq-eqb (slice_index table.numbers.items k) placed.at numbered)

  -- the one that stands for a use stands in the row of the use's owner alone
  pub stands_alone : (q : Owner) → is_among (slice_index table.stand_ins.items k) (row (owner_rows table.rows) q) ≡ is_same_owner q (use_at uses k).owner
  stands_alone q = same_tests _ _ there back where
    s : ℕ
    s = slice_index table.stand_ins.items k

    own : (use_at uses s).owner ≡ (use_at uses k).owner
    own = (holds.sound s (use_at uses k).owner (holds.stood k within)).1

    there : is_among s (row (owner_rows table.rows) q) ≡ true → is_same_owner q (use_at uses k).owner ≡ true
    there h = rw (sym (holds.sound s q h).1 ∙ own) (is_same_owner-same (use_at uses k).owner)

    back : is_same_owner q (use_at uses k).owner ≡ true → is_among s (row (owner_rows table.rows) q) ≡ true
    back h = rw (same_owner q (use_at uses k).owner h) (holds.stood k within)

-- ---- the same of operations

pub or-none : (b : Bool) → (b || false) ≡ b
or-none true = refl
or-none false = refl

-- an operation defines a variable with the number of a use's name exactly where it defines the use's variable
pub defines-use : (uses : List VariableUse) (table : rust.VariableUseIndex) → IsUseTable uses table → (k : ℕ) → k < length uses → (o : Operation)
    → list_any (is_numbered (λ q. get_by (λ (p : Bor (List ℕ)). bytes_eq q p.now) table.names) (slice_index table.numbers.items (slice_index table.stand_ins.items k))) o.variables ≡ defines (use_at uses k).name o
defines-use uses table holds k within o =
    let number : List ℕ → Option ℕ = λ q. get_by (λ (p : Bor (List ℕ)). bytes_eq q p.now) table.names in
    ap (λ (n : ℕ). list_any (is_numbered number n) o.variables) (holds.alike k within)
    ∙ list_any-agree (is_numbered number (slice_index table.numbers.items k)) (is_variable (use_at uses k).name) o.variables
    (λ v. ap (is_number (slice_index table.numbers.items k)) (holds.names v.name) ∙ number-use uses table holds k within v.name)
