-- The members of a document's sets are its fields.
use Rattle.std.proofs.Common.{◌≡◌, ◌∙◌, sym, refl, ℕ, zero, suc, ◌+◌, ◌<◌, ◌≤◌, Bool, true, false, ◌==◌, cond, List, [], ◌∷◌, ◌++◌, length, inl, inr, arith}
use Rattle.std.proofs.lemmas.Bool.{or_cases, both_ways, eqb-true}
use Rattle.gq_parser.specs.Tree.{Field, Spread, Inline, Below, nothing_below, below, SelectionSet, set_at, Selection, Selections, no_selection, and_selection, Operation, Fragment, Document}
use Rattle.merging_pairs.specs.Numbered.{is_in}
use Rattle.merging_pairs.proofs.ReachLaws.{in-append}
use Rattle.merging_members.specs.Fragments.{is_named}
use Rattle.merging_members.specs.Members.{count_in, count_among, count_from, count_below, count_operations, count_fragments, members_in, members_among, members_from, members_named, members_entered, members_of_fragment, SetOf, sets_in, sets_among, sets_from, sets_below, operation_sets, fragment_sets, sets_of}

-- each of these is below a bound
abbrev pub AllUnder : ℕ → List ℕ → Type 0
AllUnder bound ms = (c : ℕ) → is_in ms c ≡ true → c < bound

-- the members of all these sets are
abbrev pub AreFields : ℕ → List SetOf → Type 0
AreFields bound [] = Unit {0}
AreFields bound (s ∷ sets) = AllUnder bound s.members × AreFields bound sets

append-under : (bound : ℕ) (ms ns : List ℕ) → AllUnder bound ms → AllUnder bound ns → AllUnder bound (ms ++ ns)
append-under bound ms ns f g c e = elim (or_cases (is_in ms c) (is_in ns c) (sym (in-append ms ns c) ∙ e)) [ inl h ↦ f c h | inr h ↦ g c h ]

append-fields : (bound : ℕ) (xs ys : List SetOf) → AreFields bound xs → AreFields bound ys → AreFields bound (xs ++ ys)
append-fields bound [] ys f g = g
append-fields bound (x ∷ xs) ys f g = (f.0, append-fields bound xs ys f.1 g)

one-under : (bound n : ℕ) → n < bound → AllUnder bound (n ∷ [])
one-under bound n lt c e = elim (or_cases (c == n) false e) [ inl h ↦ (let same = eqb-true c n h in omega (arith, same, lt)) | inr h ↦ absurd (both_ways false refl h) ]

module _ (bound : ℕ) (spread : List ℕ → List ℕ) (spreads : (name : List ℕ) → AllUnder bound (spread name)) where
  mutual
    pub in-under : (n : ℕ) (s : SelectionSet) → n + count_in s ≤ bound → AllUnder bound (members_in spread n s)
    in-under n (set_at p ss) le = among-under n ss le

    among-under : (n : ℕ) (ss : Selections) → n + count_among ss ≤ bound → AllUnder bound (members_among spread n ss)
    among-under n no_selection le = λ c e. absurd (both_ways false refl e)
    among-under n (and_selection s ss) le = append-under bound (members_from spread n s) (members_among spread (n + count_from s) ss) (from-under n s (omega (arith, le))) (among-under (n + count_from s) ss (omega (arith, le)))

    from-under : (n : ℕ) (s : Selection) → n + count_from s ≤ bound → AllUnder bound (members_from spread n s)
    from-under n (Field p alias name as' ds b) le = one-under bound n (omega (arith, le))
    from-under n (Spread p name ds) le = spreads name
    from-under n (Inline p c ds s) le = in-under n s le

  mutual
    sets-under : (n : ℕ) (s : SelectionSet) → n + count_in s ≤ bound → AreFields bound (sets_in spread n s)
    sets-under n (set_at p ss) le = append-fields bound (sets_among spread n ss) (record { place = p; members = members_among spread n ss } ∷ []) (sets-among-under n ss le) (among-under n ss le, tt)

    sets-among-under : (n : ℕ) (ss : Selections) → n + count_among ss ≤ bound → AreFields bound (sets_among spread n ss)
    sets-among-under n no_selection le = tt
    sets-among-under n (and_selection s ss) le = append-fields bound (sets_from spread n s) (sets_among spread (n + count_from s) ss) (sets-from-under n s (omega (arith, le))) (sets-among-under (n + count_from s) ss (omega (arith, le)))

    sets-from-under : (n : ℕ) (s : Selection) → n + count_from s ≤ bound → AreFields bound (sets_from spread n s)
    sets-from-under n (Field p alias name as' ds b) le = sets-below-under (n + 1) b (omega (arith, le))
    sets-from-under n (Spread p name ds) le = tt
    sets-from-under n (Inline p c ds s) le = sets-under n s le

    sets-below-under : (n : ℕ) (b : Below) → n + count_below b ≤ bound → AreFields bound (sets_below spread n b)
    sets-below-under n nothing_below le = tt
    sets-below-under n (below s) le = sets-under n s le

  named-under : (n : ℕ) (fs : List Fragment) (name : List ℕ) → n + count_fragments fs ≤ bound → AllUnder bound (members_named spread n fs name)
  named-under n [] name le = λ c e. absurd (both_ways false refl e)
  named-under n (f ∷ fs) name le = go (is_named name f) (named-under (n + count_in f.selection_set) fs name (omega (arith, le)))
    where
      go : (t : Bool) → AllUnder bound (members_named spread (n + count_in f.selection_set) fs name) → AllUnder bound (cond t (members_in spread n f.selection_set) (members_named spread (n + count_in f.selection_set) fs name))
      go true rest = in-under n f.selection_set (omega (arith, le))
      go false rest = rest

  operations-under : (n : ℕ) (os : List Operation) → n + count_operations os ≤ bound → AreFields bound (operation_sets spread n os)
  operations-under n [] le = tt
  operations-under n (o ∷ os) le = append-fields bound (sets_in spread n o.selection_set) (operation_sets spread (n + count_in o.selection_set) os) (sets-under n o.selection_set (omega (arith, le))) (operations-under (n + count_in o.selection_set) os (omega (arith, le)))

  fragments-under : (n : ℕ) (fs : List Fragment) → n + count_fragments fs ≤ bound → AreFields bound (fragment_sets spread n fs)
  fragments-under n [] le = tt
  fragments-under n (f ∷ fs) le = append-fields bound (sets_in spread n f.selection_set) (fragment_sets spread (n + count_in f.selection_set) fs) (sets-under n f.selection_set (omega (arith, le))) (fragments-under (n + count_in f.selection_set) fs (omega (arith, le)))

module _ (bound : ℕ) (d : Document) (le : count_operations d.operations + count_fragments d.fragments ≤ bound) where
  entered-under : (k : ℕ) (name : List ℕ) → AllUnder bound (members_entered k d name)
  entered-under zero name = λ c e. absurd (both_ways false refl e)
  entered-under (suc k) name = named-under bound (members_entered k d) (entered-under k) (count_operations d.operations) d.fragments name le

  -- the members of a fragment, and those of a set below a field
  pub spread-under : (name : List ℕ) → AllUnder bound (members_of_fragment d name)
  spread-under = entered-under (length d.fragments)

  pub document-fields : AreFields bound (sets_of d)
  document-fields = append-fields bound (operation_sets (members_of_fragment d) 0 d.operations) (fragment_sets (members_of_fragment d) (count_operations d.operations) d.fragments)
      (operations-under bound (members_of_fragment d) spread-under 0 d.operations (omega (arith, le)))
      (fragments-under bound (members_of_fragment d) spread-under (count_operations d.operations) d.fragments le)
