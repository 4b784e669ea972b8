-- Members of each fragment are those of its set, where fragments have ranks.
use Rattle.std.proofs.Common.{◌≡◌, ◌∙◌, sym, ap, subst, refl, ℕ, zero, suc, ◌+◌, ◌<◌, Bool, true, false, cond, List, [], ◌∷◌, length, Option, Some, None, arith}
use Rattle.std.specs.Prelude.{slice_get, nat_lt}
use Rattle.std.specs.Option.{option_map_or}
use Rattle.std.proofs.lemmas.Bool.{and_parts, ltb-true}
use Rattle.gq_parser.specs.Tree.{Field, Spread, Inline, SelectionSet, set_at, Selection, Selections, no_selection, and_selection, Fragment, Document}
use Rattle.merging_members.specs.Fragments.{is_named, place_from, place_in}
use Rattle.merging_members.specs.Members.{count_in, count_from, count_operations, members_in, members_among, members_from, members_named, members_entered, members_of_fragment}
use Rattle.merging_members.specs.Ranked.{spreads_in, spreads_among, spreads_from, rank_of, is_under, IsRanked}
use Rattle.merging_members.specs.SetMembers.{IsFixed}
use Rattle.merging_members.proofs.Learning.{named-none}

module _ (test : List ℕ → Bool) (one other : List ℕ → List ℕ) (same : (q : List ℕ) → test q ≡ true → one q ≡ other q) where
  mutual
    same_in : (n : ℕ) (s : SelectionSet) → spreads_in test s ≡ true → members_in one n s ≡ members_in other n s
    same_in n (set_at p ss) e = same_among n ss e

    same_among : (n : ℕ) (ss : Selections) → spreads_among test ss ≡ true → members_among one n ss ≡ members_among other n ss
    same_among n no_selection e = refl
    same_among n (and_selection s ss) e =
        let p = and_parts (spreads_from test s) (spreads_among test ss) e in
        rw (same_from n s p.0, same_among (n + count_from s) ss p.1) refl

    same_from : (n : ℕ) (s : Selection) → spreads_from test s ≡ true → members_from one n s ≡ members_from other n s
    same_from n (Field p alias name as' ds b) e = refl
    same_from n (Spread p name ds) e = same name e
    same_from n (Inline p c ds s) e = same_in n s e

  same_named : (name : List ℕ) (m base : ℕ) (fs : List Fragment) (j : ℕ) → place_from m name fs ≡ Some j
      → ((i : ℕ) (f : Fragment) → slice_get fs i ≡ Some f → j ≡ m + i → spreads_in test f.selection_set ≡ true)
      → members_named one base fs name ≡ members_named other base fs name
  same_named name m base [] j at inside = refl
  same_named name m base (f ∷ fs) j at inside =
      go (is_named name f) at (λ h. same_named name (m + 1) (base + count_in f.selection_set) fs j h (λ i g here e. inside (suc i) g here (omega (arith, e))))
    where
      go : (t : Bool) → cond t (Some m) (place_from (m + 1) name fs) ≡ Some j
          → (place_from (m + 1) name fs ≡ Some j → members_named one (base + count_in f.selection_set) fs name ≡ members_named other (base + count_in f.selection_set) fs name)
          → cond t (members_in one base f.selection_set) (members_named one (base + count_in f.selection_set) fs name) ≡ cond t (members_in other base f.selection_set) (members_named other (base + count_in f.selection_set) fs name)
      go true h rest = let e : m ≡ j = cc in same_in base f.selection_set (inside 0 f refl (omega (arith, e)))
      go false h rest = rest h

-- a fragment that a name has
found : (name : List ℕ) (m : ℕ) (fs : List Fragment) (j : ℕ) → place_from m name fs ≡ Some j → (i : ℕ) × (f : Fragment) × (j ≡ m + i) × (slice_get fs i ≡ Some f)
found name m [] j e = cc
found name m (f ∷ fs) j e = go (is_named name f) e (found name (m + 1) fs j)
  where
    go : (t : Bool) → cond t (Some m) (place_from (m + 1) name fs) ≡ Some j → (place_from (m + 1) name fs ≡ Some j → (i : ℕ) × (g : Fragment) × (j ≡ (m + 1) + i) × (slice_get fs i ≡ Some g)) → (i : ℕ) × (g : Fragment) × (j ≡ m + i) × (slice_get (f ∷ fs) i ≡ Some g)
    go true h rest = let same : m ≡ j = cc in (0, f, omega (arith, same), refl)
    go false h rest = let r = rest h in let at = r.2 in (suc r.0, r.1, omega (arith, at), r.3)

module _ (ranks : List ℕ) (place : List ℕ → Option ℕ) (d : Document) (same-place : (q : List ℕ) → place q ≡ place_in d.fragments q) (ranked : IsRanked ranks place d.fragments) where
  nothing-entered : (m : ℕ) (name : List ℕ) → place_in d.fragments name ≡ None → members_entered m d name ≡ []
  nothing-entered zero name at = refl
  nothing-entered (suc m) name at = named-none (members_entered m d) name 0 (count_operations d.operations) d.fragments at

  stable : (k : ℕ) (name : List ℕ) (j : ℕ) → place_in d.fragments name ≡ Some j → rank_of ranks j < k → members_entered k d name ≡ members_entered (suc k) d name
  stable zero name j at lt = absurd (omega arith)
  stable (suc k) name j at lt = same_named (is_under ranks place (rank_of ranks j)) (members_entered k d) (members_entered (suc k) d) (λ q e. each q e (stable k q)) name 0 (count_operations d.operations) d.fragments j at inside
    where
      inside : (i : ℕ) (f : Fragment) → slice_get d.fragments i ≡ Some f → j ≡ 0 + i → spreads_in (is_under ranks place (rank_of ranks j)) f.selection_set ≡ true
      inside i f here e =
          let same : i ≡ j = omega (arith, e) in
          subst (λ (n : ℕ). spreads_in (is_under ranks place (rank_of ranks n)) f.selection_set ≡ true) same (ranked.under i f here)

      each : (q : List ℕ) → is_under ranks place (rank_of ranks j) q ≡ true → ((x : ℕ) → place_in d.fragments q ≡ Some x → rank_of ranks x < k → members_entered k d q ≡ members_entered (suc k) d q) → members_entered k d q ≡ members_entered (suc k) d q
      each q e rest = go (place_in d.fragments q) refl (ap (λ (o : Option ℕ). option_map_or (λ x. nat_lt (rank_of ranks x) (rank_of ranks j)) o true) (sym (same-place q)) ∙ e)
        where
          go : (o : Option ℕ) → place_in d.fragments q ≡ o → option_map_or (λ x. nat_lt (rank_of ranks x) (rank_of ranks j)) o true ≡ true → members_entered k d q ≡ members_entered (suc k) d q
          go None h u = nothing-entered k q h ∙ sym (nothing-entered (suc k) q h)
          go (Some x) h u = let less = ltb-true (rank_of ranks x) (rank_of ranks j) u in rest x h (omega (arith, less, lt))

  pub ranked-fixed : IsFixed (members_of_fragment d) d
  ranked-fixed name = go (place_in d.fragments name) refl
    where
      go : (o : Option ℕ) → place_in d.fragments name ≡ o → members_of_fragment d name ≡ members_named (members_of_fragment d) (count_operations d.operations) d.fragments name
      go None h = nothing-entered (length d.fragments) name h ∙ sym (named-none (members_of_fragment d) name 0 (count_operations d.operations) d.fragments h)
      go (Some j) h =
          let f = found name 0 d.fragments j h in
          let at = f.2 in
          let same : f.0 ≡ j = omega (arith, at) in
          stable (length d.fragments) name j h (subst (λ (n : ℕ). rank_of ranks n < length d.fragments) same (ranked.below f.0 f.1 f.3))
