-- The fields of a document by their places.
use Rattle.std.proofs.Common.{◌≡◌, subst, refl, ℕ, zero, suc, ◌+◌, ◌≤◌, ◌⊎◌, inl, inr, List, [], ◌∷◌, ◌++◌, length, Some, arith}
use Rattle.std.specs.Prelude.{slice_get}
use Rattle.std.proofs.lemmas.List.{length-append}
use Rattle.gq_parser.specs.Tree.{Field, Spread, Inline, Below, nothing_below, below, SelectionSet, set_at, Selection, Selections, no_selection, and_selection, Operation, Fragment, Document}
use Rattle.merging_members.specs.Members.{count_below, count_operations, count_fragments, members_below}
use Rattle.merging_members.specs.Written.{written_in, written_among, written_from, written_below, written_operations, written_fragments, written_fields, own_below, HasAll, AreOwn}
use Rattle.merging_members.proofs.Adding.{in-count, below-count, operations-count}

-- an element at a place of two lists is one of the first or of the second
pub in-either : {A : Type 0} (xs ys : List A) (a : ℕ) (x : A) → slice_get (xs ++ ys) a ≡ Some x → (slice_get xs a ≡ Some x) ⊎ ((i : ℕ) × (a ≡ length xs + i) × (slice_get ys i ≡ Some x))
in-either [] ys a x e = inr (a, omega arith, e)
in-either (z ∷ xs) ys zero x e = inl e
in-either (z ∷ xs) ys (suc a) x e = elim (in-either xs ys a x e) [
  | inl h ↦ inl h
  | inr r ↦ let at = r.1 in inr (r.0, omega (arith, at), r.2)
]

-- the fields below each field follow it
abbrev AreFollowed : List Selection → Type 0
AreFollowed fs = (a : ℕ) (f : Selection) → slice_get fs a ≡ Some f → (a + 1) + count_below (own_below f) ≤ length fs

followed-append : (xs ys : List Selection) → AreFollowed xs → AreFollowed ys → AreFollowed (xs ++ ys)
followed-append xs ys us vs a f e =
    let both = length-append xs ys in
    elim (in-either xs ys a f e) [
      | inl h ↦ let le = us a f h in omega (arith, both, le)
      | inr r ↦ let le = vs r.0 f r.2 in let at = r.1 in omega (arith, both, le, at)
    ]

followed-none : AreFollowed []
followed-none a f e = cc

mutual
  in-followed : (s : SelectionSet) → AreFollowed (written_in s)
  in-followed (set_at p ss) = among-followed ss

  among-followed : (ss : Selections) → AreFollowed (written_among ss)
  among-followed no_selection = followed-none
  among-followed (and_selection s ss) = followed-append (written_from s) (written_among ss) (from-followed s) (among-followed ss)

  from-followed : (s : Selection) → AreFollowed (written_from s)
  from-followed (Field p alias name as' ds b) zero f e =
      let same : Field p alias name as' ds b ≡ f = cc in
      let count = below-count b in
      subst (λ (g : Selection). (0 + 1) + count_below (own_below g) ≤ suc (length (written_below b))) same (omega (arith, count))
  from-followed (Field p alias name as' ds b) (suc a) f e = let le = below-followed b a f e in omega (arith, le)
  from-followed (Spread p name ds) a f e = cc
  from-followed (Inline p c ds s) a f e = in-followed s a f e

  below-followed : (b : Below) → AreFollowed (written_below b)
  below-followed nothing_below = followed-none
  below-followed (below s) = in-followed s

operations-followed : (os : List Operation) → AreFollowed (written_operations os)
operations-followed [] = followed-none
operations-followed (o ∷ os) = followed-append (written_in o.selection_set) (written_operations os) (in-followed o.selection_set) (operations-followed os)

fragments-followed : (fs : List Fragment) → AreFollowed (written_fragments fs)
fragments-followed [] = followed-none
fragments-followed (f ∷ fs) = followed-append (written_in f.selection_set) (written_fragments fs) (in-followed f.selection_set) (fragments-followed fs)

pub fields-followed : (d : Document) (a : ℕ) (f : Selection) → slice_get (written_fields d) a ≡ Some f → (a + 1) + count_below (own_below f) ≤ length (written_fields d)
fields-followed d = followed-append (written_operations d.operations) (written_fragments d.fragments) (operations-followed d.operations) (fragments-followed d.fragments)

-- ---- as many fields as are counted

fragments-count : (fs : List Fragment) → length (written_fragments fs) ≡ count_fragments fs
fragments-count [] = refl
fragments-count (f ∷ fs) =
    let first = in-count f.selection_set in let others = fragments-count fs in let both = length-append (written_in f.selection_set) (written_fragments fs) in
    omega (arith, first, others, both)

pub fields-count : (d : Document) → length (written_fields d) ≡ count_operations d.operations + count_fragments d.fragments
fields-count d =
    let first = operations-count d.operations in let others = fragments-count d.fragments in let both = length-append (written_operations d.operations) (written_fragments d.fragments) in
    omega (arith, first, others, both)

-- ---- the row of a field

pub own-row : (numbers : List ℕ) (spread : List ℕ → List ℕ) (n : ℕ) (bs : List Below) (rs : List (List ℕ)) (a k : ℕ) (b : Below) (r : List ℕ)
    → AreOwn numbers spread n bs rs → k ≡ n + a → slice_get bs a ≡ Some b → slice_get rs a ≡ Some r → HasAll numbers r (members_below spread (k + 1) b)
own-row numbers spread n [] [] a k b r own at hb hr = cc
own-row numbers spread n (c ∷ bs) (q ∷ rs) zero k b r own at hb hr =
    let one : c ≡ b = cc in let two : q ≡ r = cc in let three : n ≡ k = omega (arith, at) in
    subst (λ (x : Below). HasAll numbers r (members_below spread (k + 1) x)) one
    (subst (λ (x : List ℕ). HasAll numbers x (members_below spread (k + 1) c)) two
    (subst (λ (x : ℕ). HasAll numbers q (members_below spread (x + 1) c)) three own.0))
own-row numbers spread n (c ∷ bs) (q ∷ rs) (suc a) k b r own at hb hr = own-row numbers spread (n + 1) bs rs a k b r own.1 (omega (arith, at)) hb hr
own-row numbers spread n [] (q ∷ rs) a k b r own at hb hr = absurd own
own-row numbers spread n (c ∷ bs) [] a k b r own at hb hr = absurd own
