-- Items of keys, some with a fault in their place.
use Rattle.std.proofs.Common.{◌≡◌, ◌≤◌, ◌<◌, ◌+◌, ℕ, suc, Bool, true, false, List, [], ◌∷◌, ◌++◌, Some, length, get_or, take, refl, ap, sym, ◌∙◌, arith}
use Rattle.std.specs.Prelude.{◌==◌, slice_set, zip, min}
use Rattle.std.specs.List.{enumerate_from}
use Rattle.std.proofs.lemmas.Bool.{eqb-true, eq-eqb, false≢true, ne_eqb}
use Rattle.std.proofs.lemmas.List.{ext_get_or, get_or-map, get_or-set_same, get_or-set_other, get_or-take, length-map, length-set, length-take-le, take_all, take_more}
use Rattle.std.proofs.lemmas.List.FromFn.{get_or-enumerate_from, length-enumerate_from}
use Rattle.std.proofs.lemmas.List.Kept.{AllPairs-from_increasing}
use Rattle.std.proofs.lemmas.Slice.Zip.{get_or-zip, length-zip}
use Rattle.load_memory.specs.Outcomes.{ItemOf, rows, key_fault}
use Rattle.flat_rows.specs.Keyed.{ArePlaces, FaultsOf, fault_at, fault_or, with_faults}

abbrev none : ItemOf
none = rows []

-- ---- the fault of a key

at-other : (fs : FaultsOf) (p q : ℕ) (why : List ℕ) → (p == q) ≡ false → fault_at (fs ++ (p, why) ∷ []) q ≡ fault_at fs q
at-other [] p q why apart = rw apart refl
at-other (f ∷ fs) p q why apart = rw (at-other fs p q why apart) refl

at-new : (fs : FaultsOf) (p : ℕ) (why : List ℕ) → ((k : ℕ) → k < length fs → (get_or fs k (0, [])).0 < p) → fault_at (fs ++ (p, why) ∷ []) p ≡ Some why
at-new [] p why low = rw (eq-eqb p p refl) refl
at-new (f ∷ fs) p why low =
    let first : f.0 < p = low 0 (omega arith) in
    let apart : (f.0 == p) ≡ false = ne_eqb f.0 p (λ same. absurd (omega (arith, first, same))) in
    rw apart (at-new fs p why (λ k lt. low (suc k) (omega (arith, lt))))

-- ---- the items of all keys

abbrev one : FaultsOf → ℕ × ItemOf → ItemOf
one fs at = fault_or (fault_at fs at.0) at.1

many : (fs : FaultsOf) (items : List ItemOf) → length (with_faults fs items) ≡ length items
many fs items = length-map (enumerate_from 0 items) (one fs) ∙ length-enumerate_from 0 items

item-at : (fs : FaultsOf) (items : List ItemOf) (i : ℕ) → i < length items → get_or (with_faults fs items) i none ≡ fault_or (fault_at fs i) (get_or items i none)
item-at fs items i lt =
    let all = length-enumerate_from 0 items in let same : 0 + i ≡ i = omega arith in
    get_or-map (one fs) (enumerate_from 0 items) i (0, none) none (omega (arith, lt, all)) ∙ ap (one fs) (get_or-enumerate_from 0 items i (0, none) lt) ∙ ap (λ n. fault_or (fault_at fs n) (get_or items i none)) same

pub no-fault : (items : List ItemOf) → with_faults [] items ≡ items
no-fault items = ext_get_or none (with_faults [] items) items (many [] items) (λ i lt. item-at [] items i (omega (arith, lt, many [] items)))

-- one fault more, of a key after those that have one
module _ (fs : FaultsOf) (p : ℕ) (why : List ℕ) (items : List ItemOf) (lt : p < length items) (low : (k : ℕ) → k < length fs → (get_or fs k (0, [])).0 < p) where
  abbrev more : FaultsOf
  more = fs ++ (p, why) ∷ []

  abbrev put : List ItemOf
  put = slice_set (with_faults fs items) p (key_fault why)

  put-at : (i : ℕ) → i < length items → (b : Bool) → (p == i) ≡ b → get_or put i none ≡ get_or (with_faults more items) i none
  put-at i within true e =
      rw (← eqb-true p i e)
      (get_or-set_same (with_faults fs items) p (key_fault why) none (omega (arith, lt, many fs items)) ∙ sym (item-at more items p lt ∙ ap (λ f. fault_or f (get_or items p none)) (at-new fs p why low)))
  put-at i within false e =
      get_or-set_other (with_faults fs items) p i (key_fault why) none (λ same. false≢true (sym e ∙ eq-eqb p i (sym same))) ∙ item-at fs items i within
      ∙ ap (λ f. fault_or f (get_or items i none)) (sym (at-other fs p i why e)) ∙ sym (item-at more items i within)

  pub put-more : put ≡ with_faults more items
  put-more =
      ext_get_or none put (with_faults more items) (length-set (with_faults fs items) p (key_fault why) ∙ many fs items ∙ sym (many more items))
      (λ i within. put-at i (omega (arith, within, length-set (with_faults fs items) p (key_fault why), many fs items)) (p == i) refl)

-- ---- places beside their texts

module _ (places : List ℕ) (texts : List (List ℕ)) (enough : length places ≤ length texts) where
  abbrev faults : FaultsOf
  faults = zip places texts

  as-many : length faults ≡ length places
  as-many = length-zip places texts ∙ least (length places) (length texts) enough where
    least : (m n : ℕ) → m ≤ n → min m n ≡ m
    least m n le = omega (arith, le)

  fault-is : (i : ℕ) → i < length places → get_or faults i (0, []) ≡ (get_or places i 0, get_or texts i [])
  fault-is i lt = get_or-zip places texts i (0, []) lt (omega (arith, lt, enough))

  pub put-next : (keys i : ℕ) (items : List ItemOf) → ArePlaces keys places → length items ≡ keys → i < length places
      → slice_set (with_faults (take i faults) items) (get_or places i 0) (key_fault (get_or texts i [])) ≡ with_faults (take (i + 1) faults) items
  put-next keys i items are all lt =
      let inside : get_or places i 0 < keys = are.0 i 0 lt in
      put-more (take i faults) (get_or places i 0) (get_or texts i []) items (omega (arith, inside, all)) low
      ∙ ap (λ fs. with_faults fs items) (ap (λ f. take i faults ++ f ∷ []) (sym (fault-is i lt)) ∙ sym (take_more faults i (0, []) (omega (arith, lt, as-many))))
    where
      low : (k : ℕ) → k < length (take i faults) → (get_or (take i faults) k (0, [])).0 < get_or places i 0
      low k within =
          let below : k < i = omega (arith, within, length-take-le i faults (omega (arith, lt, as-many))) in
          let is = ap (λ f. f.0) (get_or-take i faults k (0, []) below ∙ fault-is k (omega (arith, below, lt))) in
          rw is (AllPairs-from_increasing places are.1 k i 0 below lt)

  pub put-all : (i : ℕ) (items : List ItemOf) → length places ≤ i → with_faults (take i faults) items ≡ with_faults faults items
  put-all i items past = ap (λ fs. with_faults fs items) (take_all i faults (omega (arith, past, as-many)))
