-- Lemmas on what is known of fragments grows, one after the other.
use Rattle.std.proofs.Common.{◌≡◌, ◌∙◌, sym, ap, subst, refl, ℕ, zero, suc, ◌+◌, ◌≤◌, ◌<◌, ◌==◌, inl, inr, Bool, true, false, cond, List, [], ◌∷◌, ◌++◌, length, Option, Some, None, IfSome, arith}
use Rattle.std.specs.Prelude.{slice_get}
use Rattle.std.specs.Option.{option_map_or}
use Rattle.std.proofs.lemmas.Bool.{cases_eq, or_cases, eqb-true, both_ways}
use Rattle.gq_parser.specs.Tree.{Fragment, Document}
use Rattle.merging_pairs.specs.declared.sets.ReachedFields.{ReachedFields}
use Rattle.merging_pairs.specs.Entered.{IsReached}
use Rattle.merging_pairs.specs.Numbered.{is_in}
use Rattle.merging_pairs.proofs.ReachLaws.{in-append}
use Rattle.merging_members.specs.Fragments.{is_named, place_from, place_in}
use Rattle.merging_members.specs.Members.{count_in, count_operations, count_fragments, starts_from, members_in, members_named, members_entered, members_of_fragment}
use Rattle.merging_members.specs.Ranked.{is_among}
use Rattle.merging_members.specs.SetMembers.{renumbered, KnowsAt, KnowsSome, Knows, IsFixed}

-- ---- by names

not-before : (name : List ℕ) (m : ℕ) (fs : List Fragment) (j : ℕ) → place_from m name fs ≡ Some j → m ≤ j
not-before name m [] j e = cc
not-before name m (f ∷ fs) j e = go (is_named name f) (not-before name (m + 1) fs j) e
  where
    go : (t : Bool) → (place_from (m + 1) name fs ≡ Some j → m + 1 ≤ j) → cond t (Some m) (place_from (m + 1) name fs) ≡ Some j → m ≤ j
    go true rest h = let same : m ≡ j = cc in omega (arith, same)
    go false rest h = let r = rest h in omega (arith, r)

pub named-none : (spread : List ℕ → List ℕ) (name : List ℕ) (m base : ℕ) (fs : List Fragment) → place_from m name fs ≡ None → members_named spread base fs name ≡ []
named-none spread name m base [] e = refl
named-none spread name m base (f ∷ fs) e = go (is_named name f) (named-none spread name (m + 1) (base + count_in f.selection_set) fs) e
  where
    go : (t : Bool) → (place_from (m + 1) name fs ≡ None → members_named spread (base + count_in f.selection_set) fs name ≡ []) → cond t (Some m) (place_from (m + 1) name fs) ≡ None
        → cond t (members_in spread base f.selection_set) (members_named spread (base + count_in f.selection_set) fs name) ≡ []
    go true rest h = cc
    go false rest h = rest h

-- the first fragment of a name, with the number of its first field
pub named-at : (spread : List ℕ → List ℕ) (name : List ℕ) (m base : ℕ) (fs : List Fragment) (i j s : ℕ) (f : Fragment) → place_from m name fs ≡ Some j → j ≡ m + i → slice_get fs i ≡ Some f → slice_get (starts_from base fs) i ≡ Some s
    → members_named spread base fs name ≡ members_in spread s f.selection_set
named-at spread name m base [] i j s f e at here start = cc
named-at spread name m base (g ∷ fs) zero j s f e at here start = go (is_named name g) e
  where
    go : (t : Bool) → cond t (Some m) (place_from (m + 1) name fs) ≡ Some j
        → cond t (members_in spread base g.selection_set) (members_named spread (base + count_in g.selection_set) fs name) ≡ members_in spread s f.selection_set
    go true h = let same : g ≡ f = cc in let from : base ≡ s = cc in rw (same, from) refl
    go false h = let r = not-before name (m + 1) fs j h in absurd (omega (arith, r, at))
named-at spread name m base (g ∷ fs) (suc i) j s f e at here start = go (is_named name g) e (λ h. named-at spread name (m + 1) (base + count_in g.selection_set) fs i j s f h (omega (arith, at)) here start)
  where
    go : (t : Bool) → cond t (Some m) (place_from (m + 1) name fs) ≡ Some j
        → (place_from (m + 1) name fs ≡ Some j → members_named spread (base + count_in g.selection_set) fs name ≡ members_in spread s f.selection_set)
        → cond t (members_in spread base g.selection_set) (members_named spread (base + count_in g.selection_set) fs name) ≡ members_in spread s f.selection_set
    go true h rest = let same : m ≡ j = cc in absurd (omega (arith, same, at))
    go false h rest = rest h

-- the first field of each fragment, and those after it, are among all
pub start-inside : (base : ℕ) (fs : List Fragment) (i s : ℕ) (f : Fragment) → slice_get fs i ≡ Some f → slice_get (starts_from base fs) i ≡ Some s → s + count_in f.selection_set ≤ base + count_fragments fs
start-inside base [] i s f here start = cc
start-inside base (g ∷ fs) zero s f here start =
    let same : g ≡ f = cc in
    let from : base ≡ s = cc in
    rw (← same, ← from) (omega arith)
start-inside base (g ∷ fs) (suc i) s f here start = let le = start-inside (base + count_in g.selection_set) fs i s f here start in omega (arith, le)

pub starts-length : (base : ℕ) (fs : List Fragment) → length (starts_from base fs) ≡ length fs
starts-length base [] = refl
starts-length base (f ∷ fs) = ap suc (starts-length (base + count_in f.selection_set) fs)

-- a name's fragment is there
pub place-there : (name : List ℕ) (m : ℕ) (fs : List Fragment) (j : ℕ) → place_from m name fs ≡ Some j → (i : ℕ) × (f : Fragment) × (j ≡ m + i) × (i < length fs) × (slice_get fs i ≡ Some f)
place-there name m [] j e = cc
place-there name m (f ∷ fs) j e = go (is_named name f) e (place-there name (m + 1) fs j)
  where
    go : (t : Bool) → cond t (Some m) (place_from (m + 1) name fs) ≡ Some j → (place_from (m + 1) name fs ≡ Some j → (i : ℕ) × (g : Fragment) × (j ≡ (m + 1) + i) × (i < length fs) × (slice_get fs i ≡ Some g))
        → (i : ℕ) × (g : Fragment) × (j ≡ m + i) × (i < length (f ∷ fs)) × (slice_get (f ∷ fs) i ≡ Some g)
    go true h rest = let same : m ≡ j = cc in (0, f, omega (arith, same), omega arith, refl)
    go false h rest = let r = rest h in let at = r.2 in let lt = r.3 in (suc r.0, r.1, omega (arith, at), omega (arith, lt), r.4)

pub fragment-there : (name : List ℕ) (fs : List Fragment) (j : ℕ) → place_in fs name ≡ Some j → (f : Fragment) × (j < length fs) × (slice_get fs j ≡ Some f)
fragment-there name fs j e =
    let r = place-there name 0 fs j e in
    let at = r.2 in
    let lt = r.3 in
    let same : r.0 ≡ j = omega (arith, at) in
    (r.1, omega (arith, at, lt), subst (λ (n : ℕ). slice_get fs n ≡ Some r.1) same r.4)

-- ---- a table that grows

pub if-some : {A : Type 0} (o : Option A) (P : A → Type 0) → ((r : A) → o ≡ Some r → P r) → IfSome o P
if-some None P f = tt
if-some (Some r) P f = f r refl

-- the members of the first of these fragments are known
abbrev pub Learned : List (List ℕ) → List ℕ → Document → List ℕ → List ReachedFields → Type 0
Learned rows numbers d done table =
    (name : List ℕ) (j : ℕ) → place_in d.fragments name ≡ Some j → is_in done j ≡ true → IfSome (slice_get table j) (IsReached rows (renumbered numbers (members_of_fragment d name)))

module _ (rows : List (List ℕ)) (numbers : List ℕ) (d : Document) where
  pub entered-none : (m : ℕ) (name : List ℕ) → place_in d.fragments name ≡ None → members_entered m d name ≡ []
  entered-none zero name at = refl
  entered-none (suc m) name at = named-none (members_entered m d) name 0 (count_operations d.operations) d.fragments at

  -- says what a fragment spreads is known, where it is one of these
  pub learned-some : (done : List ℕ) (table : List ReachedFields) → Learned rows numbers d done table → KnowsSome (is_among done (place_in d.fragments)) rows numbers table (place_in d.fragments) (members_of_fragment d)
  learned-some done table learned name e = go (place_in d.fragments name) refl
    where
      go : (o : Option ℕ) → place_in d.fragments name ≡ o → KnowsAt rows numbers table (members_of_fragment d name) o
      go None at = entered-none (length d.fragments) name at
      go (Some j) at = learned name j at (ap (λ (o : Option ℕ). option_map_or (is_in done) o true) (sym at) ∙ e)

  pub learned-all : (done : List ℕ) (table : List ReachedFields) → Learned rows numbers d done table → ((j : ℕ) → j < length d.fragments → is_in done j ≡ true) → Knows rows numbers table (place_in d.fragments) (members_of_fragment d)
  learned-all done table learned all name = go (place_in d.fragments name) refl
    where
      go : (o : Option ℕ) → place_in d.fragments name ≡ o → KnowsAt rows numbers table (members_of_fragment d name) o
      go None at = entered-none (length d.fragments) name at
      go (Some j) at = learned name j at (all j (fragment-there name d.fragments j at).1)

  pub learned-more : (done more : List ℕ) (x : ℕ) (old new : List ReachedFields) → IsFixed (members_of_fragment d) d → more ≡ done ++ x ∷ [] → Learned rows numbers d done old
      → ((j : ℕ) → (j ≡ x → ⊥) → slice_get new j ≡ slice_get old j)
      → ((name : List ℕ) → place_in d.fragments name ≡ Some x → IfSome (slice_get new x) (IsReached rows (renumbered numbers (members_named (members_of_fragment d) (count_operations d.operations) d.fragments name))))
      → Learned rows numbers d more new
  learned-more done more x old new fixed is learned others own name j at e = elim (cases_eq j x) [
    | inl same ↦ rw (same, fixed name) (own name (at ∙ ap Some same))
    | inr ne ↦ rw (others j ne) (learned name j at (before ne))
  ]
    where
      before : (j ≡ x → ⊥) → is_in done j ≡ true
      before ne = elim (or_cases (is_in done j) (is_in (x ∷ []) j) (sym (in-append done (x ∷ []) j) ∙ (ap (λ (xs : List ℕ). is_in xs j) (sym is) ∙ e))) [
        | inl h ↦ h
        | inr h ↦ elim (or_cases (j == x) false h) [ inl same ↦ absurd (ne (eqb-true j x same)) | inr out ↦ absurd (both_ways false refl out) ]
      ]
