-- Lemmas on what the names of spreads pass.
use Rattle.std.proofs.Common.{◌≡◌, ◌∙◌, sym, ap, refl, ℕ, zero, suc, ◌+◌, ◌<◌, Bool, true, List, [], ◌∷◌, length, drop, get_or}
use Rattle.std.proofs.lemmas.Bool.{and_from, and_parts}
use Rattle.gq_parser.specs.declared.tree.Selection as rust
use Rattle.gq_parser.specs.Tree.{Field, Spread, Inline, Below, nothing_below, below, SelectionSet, set_at, Selection, Selections, no_selection, and_selection, selection_of, map_selections}
use Rattle.merging_members.specs.Ranked.{spreads_in, spreads_among, spreads_from, spreads_below}
use Rattle.merging_members.proofs.Entering.{drop-next}

-- a test that more names pass
module _ (one other : List ℕ → Bool) (more : (name : List ℕ) → one name ≡ true → other name ≡ true) where
  mutual
    pub more-in : (s : SelectionSet) → spreads_in one s ≡ true → spreads_in other s ≡ true
    more-in (set_at p ss) e = more-among ss e

    more-among : (ss : Selections) → spreads_among one ss ≡ true → spreads_among other ss ≡ true
    more-among no_selection e = refl
    more-among (and_selection s ss) e =
        let p = and_parts (spreads_from one s) (spreads_among one ss) e in
        and_from (spreads_from other s) (spreads_among other ss) (more-from s p.0) (more-among ss p.1)

    more-from : (s : Selection) → spreads_from one s ≡ true → spreads_from other s ≡ true
    more-from (Field p alias name as' ds b) e = more-below b e
    more-from (Spread p name ds) e = more name e
    more-from (Inline p c ds s) e = more-in s e

    more-below : (b : Below) → spreads_below one b ≡ true → spreads_below other b ≡ true
    more-below nothing_below e = refl
    more-below (below s) e = more-in s e

-- a test that all names pass
module _ (test : List ℕ → Bool) (all : (name : List ℕ) → test name ≡ true) where
  mutual
    pub all-in : (s : SelectionSet) → spreads_in test s ≡ true
    all-in (set_at p ss) = all-among ss

    all-among : (ss : Selections) → spreads_among test ss ≡ true
    all-among no_selection = refl
    all-among (and_selection s ss) = and_from (spreads_from test s) (spreads_among test ss) (all-from s) (all-among ss)

    all-from : (s : Selection) → spreads_from test s ≡ true
    all-from (Field p alias name as' ds b) = all-below b
    all-from (Spread p name ds) = all name
    all-from (Inline p c ds s) = all-in s

    all-below : (b : Below) → spreads_below test b ≡ true
    all-below nothing_below = refl
    all-below (below s) = all-in s

spreads-drop : (test : List ℕ → Bool) (items : List rust.Selection) (i : ℕ) → spreads_among test (map_selections items) ≡ true → spreads_among test (map_selections (drop i items)) ≡ true
spreads-drop test items zero e = e
spreads-drop test [] (suc i) e = e
spreads-drop test (x ∷ xs) (suc i) e = spreads-drop test xs i (and_parts (spreads_from test (selection_of x)) (spreads_among test (map_selections xs)) e).1

-- the selection at a place
pub spreads-next : (test : List ℕ → Bool) (xs ys : List rust.Selection) (i : ℕ) (x : rust.Selection) → xs ≡ ys → i < length xs → x ≡ get_or xs i x → spreads_among test (map_selections ys) ≡ true → spreads_from test (selection_of x) ≡ true
spreads-next test xs ys i x same lt is e =
    let left : map_selections (drop i ys) ≡ and_selection (selection_of x) (map_selections (drop (i + 1) ys)) = ap (λ (ss : List rust.Selection). map_selections ss) (drop-next xs ys i x same lt is) in
    (and_parts (spreads_from test (selection_of x)) (spreads_among test (map_selections (drop (i + 1) ys))) (ap (spreads_among test) (sym left) ∙ spreads-drop test ys i e)).0
