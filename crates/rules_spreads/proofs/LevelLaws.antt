-- Levels that are known are those of the fragments, counted up to one too many.
use Rattle.std.proofs.Common.{◌≡◌, ◌∙◌, sym, ap, subst, ℕ, zero, suc, ◌+◌, ◌<◌, ◌≤◌, ◌⊎◌, inl, inr, Bool, true, false, List, [], ◌∷◌, length, map, set, replicate, cond, Option, Some, None, refl, add-one, arith}
use Rattle.std.specs.Prelude.{max, nat_lt, is_some, slice_get}
use Rattle.std.specs.List.{list_all}
use Rattle.std.specs.Option.{option_map, option_map_or, option_and_then}
use Rattle.std.proofs.lemmas.Bool.{and_parts, cases_eq, both_ways, lt-ltb, le-ltb}
use Rattle.gq_schema.specs.Places.{place_from}
use Rattle.gq_parser.specs.Tree.{Field, Spread, Inline, Below, nothing_below, below, SelectionSet, set_at, Selection, Selections, no_selection, and_selection, Fragment}
use Rattle.rules_parts.specs.Fragments.{is_fragment, fragment_place}
use Rattle.rules_spreads.specs.Levels.{levels_in, levels_among, levels_from, levels_below, levels_named, levels_expanded}
use Rattle.rules_spreads.specs.Known.{one_more, greater_known, known_in, known_among, known_from, known_below, known_at, known_named}
use Rattle.rules_spreads.specs.Tables.{capped_levels, Agrees, IsFull, IsSettled, expanded_table}

-- each that is known is what it is
abbrev AgreesOn : (List ℕ → Option ℕ) → (List ℕ → ℕ) → Type 0
AgreesOn spread levels = (name : List ℕ) (n : ℕ) → spread name ≡ Some n → n ≡ capped_levels (levels name)

greater : (o p : Option ℕ) (a b n : ℕ) → ((m : ℕ) → o ≡ Some m → m ≡ capped_levels a) → ((m : ℕ) → p ≡ Some m → m ≡ capped_levels b) → greater_known o p ≡ Some n → n ≡ capped_levels (max a b)
greater (Some x) (Some y) a b n f g e = let p = f x refl in let q = g y refl in let r : max x y ≡ n = cc in omega (arith, p, q, r)
greater (Some x) None a b n f g e = cc
greater None p a b n f g e = cc

deeper : (o : Option ℕ) (a n : ℕ) → ((m : ℕ) → o ≡ Some m → m ≡ capped_levels a) → option_map one_more o ≡ Some n → n ≡ capped_levels (a + 1)
deeper (Some x) a n f e = let p = f x refl in let r : one_more x ≡ n = cc in omega (arith, p, r)
deeper None a n f e = cc

mutual
  capped_in : (spread : List ℕ → Option ℕ) (levels : List ℕ → ℕ) → AgreesOn spread levels → (s : SelectionSet) (n : ℕ) → known_in spread s ≡ Some n → n ≡ capped_levels (levels_in levels s)
  capped_in spread levels agrees (set_at p ss) n e = capped_among spread levels agrees ss n e

  capped_among : (spread : List ℕ → Option ℕ) (levels : List ℕ → ℕ) → AgreesOn spread levels → (ss : Selections) (n : ℕ) → known_among spread ss ≡ Some n → n ≡ capped_levels (levels_among levels ss)
  capped_among spread levels agrees no_selection n e = let r : 0 ≡ n = cc in omega (arith, r)
  capped_among spread levels agrees (and_selection s ss) n e = greater (known_from spread s) (known_among spread ss) (levels_from levels s) (levels_among levels ss) n (capped_from spread levels agrees s) (capped_among spread levels agrees ss) e

  capped_from : (spread : List ℕ → Option ℕ) (levels : List ℕ → ℕ) → AgreesOn spread levels → (s : Selection) (n : ℕ) → known_from spread s ≡ Some n → n ≡ capped_levels (levels_from levels s)
  capped_from spread levels agrees (Field p alias name as' ds b) n e = deeper (known_below spread b) (levels_below levels b) n (capped_below spread levels agrees b) e
  capped_from spread levels agrees (Spread p name ds) n e = agrees name n e
  capped_from spread levels agrees (Inline p c ds s) n e = capped_in spread levels agrees s n e

  capped_below : (spread : List ℕ → Option ℕ) (levels : List ℕ → ℕ) → AgreesOn spread levels → (b : Below) (n : ℕ) → known_below spread b ≡ Some n → n ≡ capped_levels (levels_below levels b)
  capped_below spread levels agrees nothing_below n e = let r : 0 ≡ n = cc in omega (arith, r)
  capped_below spread levels agrees (below s) n e = capped_in spread levels agrees s n e

-- ---- by names

-- the levels that a table knows of names, where it agrees
named : (table : List (Option ℕ)) (levels : ℕ → ℕ) (fragments : List Fragment) → Agrees table levels → AgreesOn (known_named table fragments) (levels_named levels fragments)
named table levels fragments agrees name n e = go (fragment_place fragments name) e
  where
    go : (o : Option ℕ) → option_map_or (known_at table) o (Some 0) ≡ Some n → n ≡ capped_levels (option_map_or levels o 0)
    go None h = let r : 0 ≡ n = cc in omega (arith, r)
    go (Some j) h = agrees j n h

pub known-capped : (table : List (Option ℕ)) (levels : ℕ → ℕ) (fragments : List Fragment) → Agrees table levels → (s : SelectionSet) (n : ℕ) → known_in (known_named table fragments) s ≡ Some n → n ≡ capped_levels (levels_in (levels_named levels fragments) s)
known-capped table levels fragments agrees s n e = capped_in (known_named table fragments) (levels_named levels fragments) (named table levels fragments agrees) s n e

-- ---- where all is known

greater-known : (o p : Option ℕ) → is_some o ≡ true → is_some p ≡ true → is_some (greater_known o p) ≡ true
greater-known (Some m) (Some n) h k = refl
greater-known (Some m) None h k = absurd (both_ways false refl k)
greater-known None p h k = absurd (both_ways false refl h)

deeper-known : (o : Option ℕ) → is_some o ≡ true → is_some (option_map one_more o) ≡ true
deeper-known (Some n) h = refl
deeper-known None h = absurd (both_ways false refl h)

mutual
  known_set : (spread : List ℕ → Option ℕ) → ((name : List ℕ) → is_some (spread name) ≡ true) → (s : SelectionSet) → is_some (known_in spread s) ≡ true
  known_set spread all (set_at p ss) = known_each spread all ss

  known_each : (spread : List ℕ → Option ℕ) → ((name : List ℕ) → is_some (spread name) ≡ true) → (ss : Selections) → is_some (known_among spread ss) ≡ true
  known_each spread all no_selection = refl
  known_each spread all (and_selection s ss) = greater-known (known_from spread s) (known_among spread ss) (known_one spread all s) (known_each spread all ss)

  known_one : (spread : List ℕ → Option ℕ) → ((name : List ℕ) → is_some (spread name) ≡ true) → (s : Selection) → is_some (known_from spread s) ≡ true
  known_one spread all (Field p alias name as' ds b) = deeper-known (known_below spread b) (known_inner spread all b)
  known_one spread all (Spread p name ds) = all name
  known_one spread all (Inline p c ds s) = known_set spread all s

  known_inner : (spread : List ℕ → Option ℕ) → ((name : List ℕ) → is_some (spread name) ≡ true) → (b : Below) → is_some (known_below spread b) ≡ true
  known_inner spread all nothing_below = refl
  known_inner spread all (below s) = known_set spread all s

within : (test : Fragment → Bool) (n : ℕ) (fs : List Fragment) (j : ℕ) → place_from n test fs ≡ Some j → j < n + length fs
within test n [] j e = cc
within test n (f ∷ fs) j e = go (test f) (within test (n + 1) fs j) e
  where
    go : (b : Bool) → (place_from (n + 1) test fs ≡ Some j → j < (n + 1) + length fs) → cond b (Some n) (place_from (n + 1) test fs) ≡ Some j → j < n + length (f ∷ fs)
    go true rest h = let same : n ≡ j = cc in omega arith
    go false rest h = let r = rest h in omega (arith, r)

pub known-full : (table : List (Option ℕ)) (fragments : List Fragment) → IsFull table (length fragments) → (s : SelectionSet) → is_some (known_in (known_named table fragments) s) ≡ true
known-full table fragments full s = known_set (known_named table fragments) each s
  where
    each : (name : List ℕ) → is_some (known_named table fragments name) ≡ true
    each name = go (fragment_place fragments name) refl
      where
        go : (o : Option ℕ) → fragment_place fragments name ≡ o → is_some (option_map_or (known_at table) o (Some 0)) ≡ true
        go None e = refl
        go (Some j) e = let lt = within (is_fragment name) 0 fragments j e in full j (omega (arith, lt))

-- ---- a table that grows

own-at : (table : List (Option ℕ)) (x : ℕ) (v : Option ℕ) (n : ℕ) → known_at (set table x v) x ≡ Some n → v ≡ Some n
own-at [] x v n e = cc
own-at (o ∷ table) zero v n e = e
own-at (o ∷ table) (suc x) v n e = own-at table x v n e

other-at : (table : List (Option ℕ)) (x j : ℕ) (v : Option ℕ) → (j ≡ x → ⊥) → known_at (set table x v) j ≡ known_at table j
other-at [] x j v n = refl
other-at (o ∷ table) zero zero v n = absurd (n refl)
other-at (o ∷ table) zero (suc j) v n = refl
other-at (o ∷ table) (suc x) zero v n = refl
other-at (o ∷ table) (suc x) (suc j) v n = other-at table x j v (λ e. n (ap suc e))

-- a fragment whose levels were learned
learned : (table : List (Option ℕ)) (k x m n : ℕ) (f : Fragment) (fragments : List Fragment) → IsSettled table k fragments → slice_get fragments x ≡ Some f → known_in (known_named table fragments) f.selection_set ≡ Some n → k + 1 ≤ m → n ≡ capped_levels (levels_expanded m fragments x)
learned table k x zero n f fragments settled here e le = absurd (omega arith)
learned table k x (suc m) n f fragments settled here e le =
    let r = known-capped table (levels_expanded m fragments) fragments (settled m (omega arith)) f.selection_set n e in
    r ∙ ap (λ o. capped_levels (option_map_or (λ (g : Fragment). levels_in (levels_named (levels_expanded m fragments) fragments) g.selection_set) o 0)) (sym here)

pub learn-settled : (table : List (Option ℕ)) (k x : ℕ) (v : Option ℕ) (f : Fragment) (fragments : List Fragment) → IsSettled table k fragments → slice_get fragments x ≡ Some f → v ≡ known_in (known_named table fragments) f.selection_set → IsSettled (set table x v) (k + 1) fragments
learn-settled table k x v f fragments settled here is m le j n e = go (cases_eq j x)
  where
    go : (j ≡ x) ⊎ (j ≡ x → ⊥) → n ≡ capped_levels (levels_expanded m fragments j)
    go (inl same) =
        let P : ℕ → Type 0 = λ i. known_at (set table x v) i ≡ Some n in
        let r : n ≡ capped_levels (levels_expanded m fragments x) = learned table k x m n f fragments settled here (sym is ∙ own-at table x v n (subst P same e)) le in
        r ∙ ap (λ i. capped_levels (levels_expanded m fragments i)) (sym same)
    go (inr different) = settled m (omega arith) j n (sym (other-at table x j v different) ∙ e)

pub settled-next : (table : List (Option ℕ)) (k : ℕ) (fragments : List Fragment) → IsSettled table k fragments → IsSettled table (k + 1) fragments
settled-next table k fragments settled m le = settled m (omega arith)

pub settled-none : (count : ℕ) (fragments : List Fragment) → IsSettled (replicate count None) 0 fragments
settled-none count fragments m le j n e = absurd (none count j n e)
  where
    none : (many i k : ℕ) → known_at (replicate many None) i ≡ Some k → ⊥
    none zero i k h = cc
    none (suc many) zero k h = cc
    none (suc many) (suc i) k h = none many i k h

-- ---- tables by expansion

expanded-at : (table : List (Option ℕ)) (fragments fs : List Fragment) (j : ℕ) → known_at (map (λ (f : Fragment). known_in (known_named table fragments) f.selection_set) fs) j ≡ option_and_then (λ (f : Fragment). known_in (known_named table fragments) f.selection_set) (slice_get fs j)
expanded-at table fragments [] j = refl
expanded-at table fragments (f ∷ fs) zero = refl
expanded-at table fragments (f ∷ fs) (suc j) = expanded-at table fragments fs j

pub expanded-agrees : (table : List (Option ℕ)) (k : ℕ) (fragments : List Fragment) → Agrees table (levels_expanded k fragments) → Agrees (expanded_table table fragments) (levels_expanded (k + 1) fragments)
expanded-agrees table k fragments agrees j n e = rw add-one (go (slice_get fragments j) (sym (expanded-at table fragments fragments j) ∙ e))
  where
    go : (o : Option Fragment) → option_and_then (λ (f : Fragment). known_in (known_named table fragments) f.selection_set) o ≡ Some n → n ≡ capped_levels (option_map_or (λ (f : Fragment). levels_in (levels_named (levels_expanded k fragments) fragments) f.selection_set) o 0)
    go None h = cc
    go (Some f) h = known-capped table (levels_expanded k fragments) fragments agrees f.selection_set n h

found : (fs : List Fragment) (j : ℕ) → j < length fs → is_some (slice_get fs j) ≡ true
found [] j h = absurd (omega arith)
found (f ∷ fs) zero h = refl
found (f ∷ fs) (suc j) h = found fs j (omega arith)

pub expanded-full : (table : List (Option ℕ)) (fragments : List Fragment) → IsFull table (length fragments) → IsFull (expanded_table table fragments) (length fragments)
expanded-full table fragments full j lt = let P : Option ℕ → Type 0 = λ o. is_some o ≡ true in subst P (sym (expanded-at table fragments fragments j)) (go (slice_get fragments j) (found fragments j lt))
  where
    go : (o : Option Fragment) → is_some o ≡ true → is_some (option_and_then (λ (f : Fragment). known_in (known_named table fragments) f.selection_set) o) ≡ true
    go None h = absurd (both_ways false refl h)
    go (Some f) h = known-full table fragments full f.selection_set

pub tested-full : (table : List (Option ℕ)) (count : ℕ) → list_all is_some table ≡ true → length table ≡ count → IsFull table count
tested-full [] count h e j lt = absurd (omega arith)
tested-full (o ∷ table) count h e zero lt = go o (and_parts (is_some o) (list_all is_some table) h).0
  where
    go : (p : Option ℕ) → is_some p ≡ true → is_some (known_at (p ∷ table) 0) ≡ true
    go None k = k
    go (Some n) k = refl
tested-full (o ∷ table) count h e (suc j) lt = tested-full table (length table) (and_parts (is_some o) (list_all is_some table) h).1 refl j (omega arith)

-- ---- the verdict

pub deep : (levels n : ℕ) → n ≡ capped_levels levels → 128 < n → nat_lt 128 levels ≡ true
deep levels n e h = lt-ltb 128 levels (omega (arith, e))

pub not-deep : (levels n : ℕ) → n ≡ capped_levels levels → n ≤ 128 → nat_lt 128 levels ≡ false
not-deep levels n e h = le-ltb 128 levels (omega (arith, e))
