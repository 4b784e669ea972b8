-- The rows of fields, as they are added.
use Rattle.std.proofs.Common.{◌≡◌, ◌∙◌, sym, ap, subst, refl, ℕ, suc, ◌+◌, ◌<◌, List, [], ◌∷◌, ◌++◌, length, set, append_assoc, append-nil, arith}
use Rattle.std.proofs.lemmas.List.{map-append, length-map, length-append}
use Rattle.gq_parser.specs.Tree.{Field, Spread, Inline, Below, nothing_below, below, SelectionSet, set_at, Selection, Selections, no_selection, and_selection, Operation, Document}
use Rattle.merging_members.specs.Members.{count_in, count_among, count_from, count_below, count_operations, members_below}
use Rattle.merging_members.specs.Written.{written_in, written_among, written_from, written_below, written_operations, written_fragments, written_fields, own_below, belows, HasAll, AreOwn, AreAdded}

-- ---- as many fields as are counted

mutual
  pub in-count : (s : SelectionSet) → length (written_in s) ≡ count_in s
  in-count (set_at p ss) = among-count ss

  pub among-count : (ss : Selections) → length (written_among ss) ≡ count_among ss
  among-count no_selection = refl
  among-count (and_selection s ss) =
      let first = from-count s in let others = among-count ss in let both = length-append (written_from s) (written_among ss) in
      omega (arith, first, others, both)

  pub from-count : (s : Selection) → length (written_from s) ≡ count_from s
  from-count (Field p alias name as' ds b) = let rest = below-count b in omega (arith, rest)
  from-count (Spread p name ds) = refl
  from-count (Inline p c ds s) = in-count s

  pub below-count : (b : Below) → length (written_below b) ≡ count_below b
  below-count nothing_below = refl
  below-count (below s) = in-count s

pub belows-length : (fs : List Selection) → length (belows fs) ≡ length fs
belows-length fs = length-map fs own_below

-- ---- rows after rows

own-more : (numbers : List ℕ) (spread : List ℕ → List ℕ) (n : ℕ) (bs cs : List Below) (rs qs : List (List ℕ))
    → AreOwn numbers spread n bs rs → AreOwn numbers spread (n + length bs) cs qs → AreOwn numbers spread n (bs ++ cs) (rs ++ qs)
own-more numbers spread n [] cs [] qs here rest = let same : n + 0 ≡ n = omega arith in subst (λ (k : ℕ). AreOwn numbers spread k cs qs) same rest
own-more numbers spread n (b ∷ bs) cs (r ∷ rs) qs here rest =
    let same : n + suc (length bs) ≡ (n + 1) + length bs = omega arith in
    (here.0, own-more numbers spread (n + 1) bs cs rs qs here.1 (subst (λ (k : ℕ). AreOwn numbers spread k cs qs) same rest))
own-more numbers spread n [] cs (r ∷ rs) qs here rest = absurd here
own-more numbers spread n (b ∷ bs) cs [] qs here rest = absurd here

-- Rows so far, where these fields are left and the next has the number n.
pub record Adding (numbers : List ℕ) (all : List Below) (spread : List ℕ → List ℕ) (first n : ℕ) (rest : List Below) (old new : List (List ℕ)) : Type 0 where
  pub done : List Below
  pub whole : done ++ rest ≡ all
  pub count : n ≡ first + length done
  pub added : AreAdded numbers spread first done old new

pub adding-none : (numbers : List ℕ) (all : List Below) (spread : List ℕ → List ℕ) (first : ℕ) (old : List (List ℕ)) → Adding numbers all spread first first all old old
adding-none numbers all spread first old = record { done = []; whole = refl; count = omega arith; added = record { rows = []; whole = sym (append-nil old); own = tt } }

pub adding-more : (numbers : List ℕ) (all : List Below) (spread : List ℕ → List ℕ) (first n m : ℕ) (bs rest : List Below) (old mid new : List (List ℕ))
    → Adding numbers all spread first n (bs ++ rest) old mid → m ≡ n + length bs → AreAdded numbers spread n bs mid new → Adding numbers all spread first m rest old new
adding-more numbers all spread first n m bs rest old mid new a next more =
    let count = a.count in
    let both = length-append a.done bs in
    record {
      done = a.done ++ bs;
      whole = append_assoc a.done bs rest ∙ a.whole;
      count = omega (arith, count, both, next);
      added = record {
        rows = a.added.rows ++ more.rows;
        whole = more.whole ∙ (ap (λ (rs : List (List ℕ)). rs ++ more.rows) a.added.whole ∙ append_assoc old a.added.rows more.rows);
        own = own-more numbers spread first a.done bs a.added.rows more.rows a.added.own (subst (λ (k : ℕ). AreOwn numbers spread k bs more.rows) count more.own);
      };
    }

-- all fields are added where none is left
pub adding-all : (numbers : List ℕ) (all : List Below) (spread : List ℕ → List ℕ) (first n : ℕ) (old new : List (List ℕ)) → Adding numbers all spread first n [] old new → AreAdded numbers spread first all old new
adding-all numbers all spread first n old new a = subst (λ (bs : List Below). AreAdded numbers spread first bs old new) (sym (append-nil a.done) ∙ a.whole) a.added

-- ---- the row of a field before those of the fields below it

set-here : (xs ys : List (List ℕ)) (x y : List ℕ) → set ((xs ++ x ∷ []) ++ ys) (length xs) y ≡ xs ++ y ∷ ys
set-here [] ys x y = refl
set-here (z ∷ xs) ys x y = ap (λ (rs : List (List ℕ)). z ∷ rs) (set-here xs ys x y)

pub field-added : (numbers : List ℕ) (spread : List ℕ → List ℕ) (n m k : ℕ) (b : Below) (bs : List Below) (old pushed mid : List (List ℕ)) (blank row : List ℕ)
    → m ≡ n + 1 → k ≡ length old → pushed ≡ old ++ blank ∷ [] → AreAdded numbers spread m bs pushed mid → HasAll numbers row (members_below spread m b)
    → AreAdded numbers spread n (b ∷ bs) old (set mid k row)
field-added numbers spread n m k b bs old pushed mid blank row next place push more has = record {
  rows = row ∷ more.rows;
  whole = rw (place, more.whole, push) (set-here old more.rows blank row);
  own = (subst (λ (i : ℕ). HasAll numbers row (members_below spread i b)) next has, subst (λ (i : ℕ). AreOwn numbers spread i bs more.rows) next more.own);
}

-- there is a place for it
pub field-place : (numbers : List ℕ) (spread : List ℕ → List ℕ) (n k : ℕ) (bs : List Below) (old pushed mid : List (List ℕ)) (blank : List ℕ)
    → k ≡ length old → pushed ≡ old ++ blank ∷ [] → AreAdded numbers spread n bs pushed mid → k < length mid
field-place numbers spread n k bs old pushed mid blank place push more =
    let one = ap length push in let two = length-append old (blank ∷ []) in let three = ap length more.whole in let four = length-append pushed more.rows in
    omega (arith, place, one, two, three, four)

-- a field with nothing below it
pub leaf-added : (numbers : List ℕ) (spread : List ℕ → List ℕ) (n : ℕ) (old new : List (List ℕ)) (blank : List ℕ) → new ≡ old ++ blank ∷ [] → HasAll numbers blank [] → AreAdded numbers spread n (nothing_below ∷ []) old new
leaf-added numbers spread n old new blank push has = record { rows = blank ∷ []; whole = push; own = (has, tt) }

-- ---- all fields of a document

pub operations-count : (os : List Operation) → length (written_operations os) ≡ count_operations os
operations-count [] = refl
operations-count (o ∷ os) =
    let first = in-count o.selection_set in let others = operations-count os in let both = length-append (written_in o.selection_set) (written_operations os) in
    omega (arith, first, others, both)

pub added-both : (numbers : List ℕ) (spread : List ℕ → List ℕ) (d : Document) (n : ℕ) (old mid new : List (List ℕ))
    → old ≡ [] → n ≡ count_operations d.operations
    → AreAdded numbers spread 0 (belows (written_operations d.operations)) old mid → AreAdded numbers spread n (belows (written_fragments d.fragments)) mid new
    → AreOwn numbers spread 0 (belows (written_fields d)) new
added-both numbers spread d n old mid new none count first others =
    let os = written_operations d.operations in
    let fs = written_fragments d.fragments in
    let many : n ≡ 0 + length (belows os) = let here = operations-count d.operations in let same = belows-length os in omega (arith, count, here, same) in
    let whole : new ≡ first.rows ++ others.rows = rw (others.whole, first.whole, none) refl in
    rw (whole, map-append own_below os fs) (own-more numbers spread 0 (belows os) (belows fs) first.rows others.rows first.own (subst (λ (k : ℕ). AreOwn numbers spread k (belows fs) others.rows) many others.own))
