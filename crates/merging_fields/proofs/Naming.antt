-- The numbers of members name the fields that selection sets have.
use Rattle.std.proofs.Common.{◌≡◌, ◌∙◌, sym, ap, subst, refl, ℕ, zero, suc, ◌+◌, inl, inr, Bool, true, false, cond, List, [], ◌∷◌, ◌++◌, length, map, Option, Some, arith}
use Rattle.std.specs.Prelude.{slice_get}
use Rattle.std.proofs.Math.Path.{fun_ext}
use Rattle.std.proofs.lemmas.List.{map-append}
use Rattle.gq_parser.specs.Tree.{Field, Spread, Inline, Below, nothing_below, below, SelectionSet, set_at, Selection, Selections, no_selection, and_selection, Operation, Fragment, Document}
use Rattle.merging_members.specs.Fragments.{is_named}
use Rattle.merging_members.specs.Members.{SetOf, count_in, count_from, count_operations, members_in, members_among, members_from, members_below, members_named, members_entered, members_of_fragment, own_set, sets_in, sets_among, sets_from, sets_below, operation_sets, fragment_sets, sets_of}
use Rattle.merging_members.specs.SetMembers.{IsFixed}
use Rattle.merging_members.specs.Written.{written_in, written_among, written_from, written_below, written_operations, written_fragments, written_fields, own_below}
use Rattle.merging_members.proofs.Adding.{in-count, from-count, operations-count}
use Rattle.merging_members.proofs.Places.{in-either}
use Rattle.merging_fields.specs.Selected.{selected_in, selected_among, selected_from, selected_below, selected_named, selected_entered, selected_by_fragment, SelectedBy, selecting, selecting_in, selecting_among, selecting_from, selecting_below, selecting_operations, selecting_fragments, selecting_sets, looked_up}

-- ---- places in lists

pub get-left : {A : Type 0} (xs ys : List A) (i : ℕ) (x : A) → slice_get xs i ≡ Some x → slice_get (xs ++ ys) i ≡ Some x
get-left [] ys i x e = cc
get-left (z ∷ xs) ys zero x e = e
get-left (z ∷ xs) ys (suc i) x e = get-left xs ys i x e

get-right : {A : Type 0} (xs ys : List A) (i k : ℕ) (x : A) → k ≡ length xs + i → slice_get ys i ≡ Some x → slice_get (xs ++ ys) k ≡ Some x
get-right [] ys i k x at e = let same : i ≡ k = omega (arith, at) in subst (λ (j : ℕ). slice_get ys j ≡ Some x) same e
get-right (z ∷ xs) ys i zero x at e = absurd (omega (arith, at))
get-right (z ∷ xs) ys i (suc k) x at e = get-right xs ys i k x (omega (arith, at)) e

-- these stand in a list from a place on
abbrev pub Stands : List Selection → ℕ → List Selection → Type 0
Stands all n xs = (i : ℕ) (x : Selection) → slice_get xs i ≡ Some x → slice_get all (n + i) ≡ Some x

stands-first : (all : List Selection) (n : ℕ) (xs ys : List Selection) → Stands all n (xs ++ ys) → Stands all n xs
stands-first all n xs ys st i x e = st i x (get-left xs ys i x e)

stands-then : (all : List Selection) (n m : ℕ) (xs ys : List Selection) → m ≡ n + length xs → Stands all n (xs ++ ys) → Stands all m ys
stands-then all n m xs ys at st i x e =
    let same : n + (length xs + i) ≡ m + i = omega (arith, at) in
    subst (λ (k : ℕ). slice_get all k ≡ Some x) same (st (length xs + i) x (get-right xs ys i (length xs + i) x refl e))

stands-rest : (all : List Selection) (n : ℕ) (y : Selection) (ys : List Selection) → Stands all n (y ∷ ys) → Stands all (n + 1) ys
stands-rest all n y ys st i x e = let same : n + suc i ≡ (n + 1) + i = omega arith in subst (λ (k : ℕ). slice_get all k ≡ Some x) same (st (suc i) x e)

stands-here : (all : List Selection) (n : ℕ) (y : Selection) (ys : List Selection) → Stands all n (y ∷ ys) → slice_get all n ≡ Some y
stands-here all n y ys st = let same : n + 0 ≡ n = omega arith in subst (λ (k : ℕ). slice_get all k ≡ Some y) same (st 0 y refl)

stands-whole : (all : List Selection) → Stands all 0 all
stands-whole all i x e = let same : i ≡ 0 + i = omega arith in subst (λ (k : ℕ). slice_get all k ≡ Some x) same e

-- ---- members

both-named : {A B C : Type 0} (f : A → C) (g : B → C) (as' cs : List A) (bs ds : List B) → map f as' ≡ map g bs → map f cs ≡ map g ds → map f (as' ++ cs) ≡ map g (bs ++ ds)
both-named f g as' cs bs ds e h = map-append f as' cs ∙ (rw (e, h) (sym (map-append g bs ds)))

module _ (all : List Selection) (spread : List ℕ → List ℕ) (selected : List ℕ → List Selection) (same : (name : List ℕ) → map (slice_get all) (spread name) ≡ map Some (selected name)) where
  mutual
    pub in-named : (n : ℕ) (s : SelectionSet) → Stands all n (written_in s) → map (slice_get all) (members_in spread n s) ≡ map Some (selected_in selected s)
    in-named n (set_at p ss) st = among-named n ss st

    among-named : (n : ℕ) (ss : Selections) → Stands all n (written_among ss) → map (slice_get all) (members_among spread n ss) ≡ map Some (selected_among selected ss)
    among-named n no_selection st = refl
    among-named n (and_selection s ss) st =
        both-named (slice_get all) Some (members_from spread n s) (members_among spread (n + count_from s) ss) (selected_from selected s) (selected_among selected ss)
        (from-named n s (stands-first all n (written_from s) (written_among ss) st))
        (among-named (n + count_from s) ss (stands-then all n (n + count_from s) (written_from s) (written_among ss) (ap (λ (k : ℕ). n + k) (sym (from-count s))) st))

    from-named : (n : ℕ) (s : Selection) → Stands all n (written_from s) → map (slice_get all) (members_from spread n s) ≡ map Some (selected_from selected s)
    from-named n (Field p alias name as' ds b) st = ap (λ (o : Option Selection). o ∷ []) (stands-here all n (Field p alias name as' ds b) (written_below b) st)
    from-named n (Spread p name ds) st = same name
    from-named n (Inline p c ds s) st = in-named n s st

  pub below-named : (n : ℕ) (b : Below) → Stands all n (written_below b) → map (slice_get all) (members_below spread n b) ≡ map Some (selected_below selected b)
  below-named n nothing_below st = refl
  below-named n (below s) st = in-named n s st

  fragment-named : (n : ℕ) (fs : List Fragment) (name : List ℕ) → Stands all n (written_fragments fs) → map (slice_get all) (members_named spread n fs name) ≡ map Some (selected_named selected fs name)
  fragment-named n [] name st = refl
  fragment-named n (f ∷ fs) name st =
      go (is_named name f) (fragment-named (n + count_in f.selection_set) fs name (stands-then all n (n + count_in f.selection_set) (written_in f.selection_set) (written_fragments fs) (ap (λ (k : ℕ). n + k) (sym (in-count f.selection_set))) st))
    where
      go : (t : Bool) → map (slice_get all) (members_named spread (n + count_in f.selection_set) fs name) ≡ map Some (selected_named selected fs name)
          → map (slice_get all) (cond t (members_in spread n f.selection_set) (members_named spread (n + count_in f.selection_set) fs name)) ≡ map Some (cond t (selected_in selected f.selection_set) (selected_named selected fs name))
      go true rest = in-named n f.selection_set (stands-first all n (written_in f.selection_set) (written_fragments fs) st)
      go false rest = rest

  -- ---- sets

  both-sets : (xs ys : List SetOf) (us vs : List SelectedBy) → map (looked_up all) xs ≡ us → map (looked_up all) ys ≡ vs → map (looked_up all) (xs ++ ys) ≡ us ++ vs
  both-sets xs ys us vs e f = map-append (looked_up all) xs ys ∙ (rw (e, f) refl)

  mutual
    sets-in-named : (n : ℕ) (s : SelectionSet) → Stands all n (written_in s) → map (looked_up all) (sets_in spread n s) ≡ selecting_in selected s
    sets-in-named n (set_at p ss) st =
        both-sets (sets_among spread n ss) (own_set spread n (set_at p ss)) (selecting_among selected ss) (selecting selected (set_at p ss) ∷ []) (sets-among-named n ss st)
        (ap (λ (fs : List (Option Selection)). record { place = p; fields = fs } ∷ []) (among-named n ss st))

    sets-among-named : (n : ℕ) (ss : Selections) → Stands all n (written_among ss) → map (looked_up all) (sets_among spread n ss) ≡ selecting_among selected ss
    sets-among-named n no_selection st = refl
    sets-among-named n (and_selection s ss) st =
        both-sets (sets_from spread n s) (sets_among spread (n + count_from s) ss) (selecting_from selected s) (selecting_among selected ss)
        (sets-from-named n s (stands-first all n (written_from s) (written_among ss) st))
        (sets-among-named (n + count_from s) ss (stands-then all n (n + count_from s) (written_from s) (written_among ss) (ap (λ (k : ℕ). n + k) (sym (from-count s))) st))

    sets-from-named : (n : ℕ) (s : Selection) → Stands all n (written_from s) → map (looked_up all) (sets_from spread n s) ≡ selecting_from selected s
    sets-from-named n (Field p alias name as' ds b) st = sets-below-named (n + 1) b (stands-rest all n (Field p alias name as' ds b) (written_below b) st)
    sets-from-named n (Spread p name ds) st = refl
    sets-from-named n (Inline p c ds s) st = sets-in-named n s st

    sets-below-named : (n : ℕ) (b : Below) → Stands all n (written_below b) → map (looked_up all) (sets_below spread n b) ≡ selecting_below selected b
    sets-below-named n nothing_below st = refl
    sets-below-named n (below s) st = sets-in-named n s st

  operations-named : (n : ℕ) (os : List Operation) → Stands all n (written_operations os) → map (looked_up all) (operation_sets spread n os) ≡ selecting_operations selected os
  operations-named n [] st = refl
  operations-named n (o ∷ os) st =
      both-sets (sets_in spread n o.selection_set) (operation_sets spread (n + count_in o.selection_set) os) (selecting_in selected o.selection_set) (selecting_operations selected os)
      (sets-in-named n o.selection_set (stands-first all n (written_in o.selection_set) (written_operations os) st))
      (operations-named (n + count_in o.selection_set) os (stands-then all n (n + count_in o.selection_set) (written_in o.selection_set) (written_operations os) (ap (λ (k : ℕ). n + k) (sym (in-count o.selection_set))) st))

  fragments-named : (n : ℕ) (fs : List Fragment) → Stands all n (written_fragments fs) → map (looked_up all) (fragment_sets spread n fs) ≡ selecting_fragments selected fs
  fragments-named n [] st = refl
  fragments-named n (f ∷ fs) st =
      both-sets (sets_in spread n f.selection_set) (fragment_sets spread (n + count_in f.selection_set) fs) (selecting_in selected f.selection_set) (selecting_fragments selected fs)
      (sets-in-named n f.selection_set (stands-first all n (written_in f.selection_set) (written_fragments fs) st))
      (fragments-named (n + count_in f.selection_set) fs (stands-then all n (n + count_in f.selection_set) (written_in f.selection_set) (written_fragments fs) (ap (λ (k : ℕ). n + k) (sym (in-count f.selection_set))) st))

-- ---- documents

module _ (d : Document) where
  in-operations : Stands (written_fields d) 0 (written_operations d.operations)
  in-operations = stands-first (written_fields d) 0 (written_operations d.operations) (written_fragments d.fragments) (stands-whole (written_fields d))

  in-fragments : Stands (written_fields d) (count_operations d.operations) (written_fragments d.fragments)
  in-fragments =
      let count = operations-count d.operations in
      stands-then (written_fields d) 0 (count_operations d.operations) (written_operations d.operations) (written_fragments d.fragments) (omega (arith, count)) (stands-whole (written_fields d))

  entered-named : (k : ℕ) (name : List ℕ) → map (slice_get (written_fields d)) (members_entered k d name) ≡ map Some (selected_entered k d name)
  entered-named zero name = refl
  entered-named (suc k) name = fragment-named (written_fields d) (members_entered k d) (selected_entered k d) (entered-named k) (count_operations d.operations) d.fragments name in-fragments

  pub members-named : (name : List ℕ) → map (slice_get (written_fields d)) (members_of_fragment d name) ≡ map Some (selected_by_fragment d name)
  members-named = entered-named (length d.fragments)

  pub sets-named : map (looked_up (written_fields d)) (sets_of d) ≡ selecting_sets d
  sets-named =
      both-sets (written_fields d) (members_of_fragment d) (selected_by_fragment d) members-named
      (operation_sets (members_of_fragment d) 0 d.operations) (fragment_sets (members_of_fragment d) (count_operations d.operations) d.fragments)
      (selecting_operations (selected_by_fragment d) d.operations) (selecting_fragments (selected_by_fragment d) d.fragments)
      (operations-named (written_fields d) (members_of_fragment d) (selected_by_fragment d) members-named 0 d.operations in-operations)
      (fragments-named (written_fields d) (members_of_fragment d) (selected_by_fragment d) members-named (count_operations d.operations) d.fragments in-fragments)

  -- ---- a greater bound

  pub unfolded : IsFixed (members_of_fragment d) d → (i k : ℕ) → k ≡ length d.fragments + i → (name : List ℕ) → members_entered k d name ≡ members_of_fragment d name
  unfolded fixed zero k e name = let same : length d.fragments ≡ k = omega (arith, e) in subst (λ (m : ℕ). members_entered m d name ≡ members_of_fragment d name) same refl
  unfolded fixed (suc i) zero e name = absurd (omega (arith, e))
  unfolded fixed (suc i) (suc k) e name =
      ap (λ (spread : List ℕ → List ℕ). members_named spread (count_operations d.operations) d.fragments name) (fun_ext (unfolded fixed i k (omega (arith, e)))) ∙ sym (fixed name)

-- ---- the fields below each field follow it

abbrev Follow : List Selection → Type 0
Follow fs = (a : ℕ) (f : Selection) → slice_get fs a ≡ Some f → Stands fs (a + 1) (written_below (own_below f))

follow-append : (xs ys : List Selection) → Follow xs → Follow ys → Follow (xs ++ ys)
follow-append xs ys us vs a f e = elim (in-either xs ys a f e) [
  | inl h ↦ λ i x here. get-left xs ys ((a + 1) + i) x (us a f h i x here)
  | inr r ↦ λ i x here. let at = r.1 in get-right xs ys ((r.0 + 1) + i) ((a + 1) + i) x (omega (arith, at)) (vs r.0 f r.2 i x here)
]

follow-none : Follow []
follow-none a f e = cc

follow-field : (g : Selection) (bs : List Selection) → bs ≡ written_below (own_below g) → Follow bs → Follow (g ∷ bs)
follow-field g bs is us zero f e i x here =
    let same : g ≡ f = cc in
    let own : slice_get bs i ≡ Some x = subst (λ (ys : List Selection). slice_get ys i ≡ Some x) (sym (is ∙ ap (λ (h : Selection). written_below (own_below h)) same)) here in
    get-right (g ∷ []) bs i ((0 + 1) + i) x (omega arith) own
follow-field g bs is us (suc a) f e i x here = get-right (g ∷ []) bs ((a + 1) + i) ((suc a + 1) + i) x (omega arith) (us a f e i x here)

mutual
  in-follow : (s : SelectionSet) → Follow (written_in s)
  in-follow (set_at p ss) = among-follow ss

  among-follow : (ss : Selections) → Follow (written_among ss)
  among-follow no_selection = follow-none
  among-follow (and_selection s ss) = follow-append (written_from s) (written_among ss) (from-follow s) (among-follow ss)

  from-follow : (s : Selection) → Follow (written_from s)
  from-follow (Field p alias name as' ds b) = follow-field (Field p alias name as' ds b) (written_below b) refl (below-follow b)
  from-follow (Spread p name ds) = follow-none
  from-follow (Inline p c ds s) = in-follow s

  below-follow : (b : Below) → Follow (written_below b)
  below-follow nothing_below = follow-none
  below-follow (below s) = in-follow s

operations-follow : (os : List Operation) → Follow (written_operations os)
operations-follow [] = follow-none
operations-follow (o ∷ os) = follow-append (written_in o.selection_set) (written_operations os) (in-follow o.selection_set) (operations-follow os)

fragments-follow : (fs : List Fragment) → Follow (written_fragments fs)
fragments-follow [] = follow-none
fragments-follow (f ∷ fs) = follow-append (written_in f.selection_set) (written_fragments fs) (in-follow f.selection_set) (fragments-follow fs)

-- the own set of the field of a number has the fields that the number after it begins with
pub own-named : (d : Document) (a : ℕ) (f : Selection) → slice_get (written_fields d) a ≡ Some f
    → map (slice_get (written_fields d)) (members_below (members_of_fragment d) (a + 1) (own_below f)) ≡ map Some (selected_below (selected_by_fragment d) (own_below f))
own-named d a f e =
    below-named (written_fields d) (members_of_fragment d) (selected_by_fragment d) (members-named d) (a + 1) (own_below f)
    (follow-append (written_operations d.operations) (written_fragments d.fragments) (operations-follow d.operations) (fragments-follow d.fragments) a f e)
