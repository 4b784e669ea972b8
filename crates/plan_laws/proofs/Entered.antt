-- Collection ends: each fragment that is entered leaves one less that may be.
use Rattle.std.proofs.Common.{◌≡◌, ◌∙◌, ap, refl, ℕ, zero, suc, ◌+◌, ◌<◌, ◌≤◌, true, false, List, [], ◌∷◌, ◌++◌, length, Option, Some, find, arith, if◌then◌else◌}
use Rattle.std.specs.Prelude.{bytes_eq}
use Rattle.std.specs.List.{list_any}
use Rattle.std.proofs.lemmas.List.Folds.{list_any-append}
use Rattle.std.proofs.lemmas.Slice.Eq.{bytes_eq-Decides}
use Rattle.gq_parser.specs.Tree.{Selection, Field, Spread, Inline, SelectionSet, set_at, Selections, no_selection, and_selection, Fragment}
use Rattle.gq_check.specs.Plans.{PlanOf, is_fragment, fragment_in}
use Rattle.plan_program.specs.Groups.{Collected, Entering, has_entered, collect_one, collect_set, collect_all, enter_fragment, entering}
use Rattle.plan_laws.proofs.Options.{by_option}

-- gives how many of these fragments weren't entered
abbrev free : List Fragment → List (List ℕ) → ℕ
free [] entered = 0
free (f ∷ fs) entered = (if list_any (bytes_eq f.name) entered then 0 else 1) + free fs entered

free-most : (fs : List Fragment) (entered : List (List ℕ)) → free fs entered ≤ length fs
free-most [] entered = omega arith
free-most (f ∷ fs) entered = let rest = free-most fs entered in grind arith

free-more : (fs : List Fragment) (es : List (List ℕ)) (name : List ℕ) → free fs (es ++ name ∷ []) ≤ free fs es
free-more [] es name = omega arith
free-more (f ∷ fs) es name = let rest = free-more fs es name in let either = list_any-append (bytes_eq f.name) es (name ∷ []) in grind arith

-- a fragment that is found by a name that wasn't entered is one less then
free-less : (fs : List Fragment) (es : List (List ℕ)) (name : List ℕ) (f : Fragment) → find (is_fragment name) fs ≡ Some f → list_any (bytes_eq name) es ≡ false → free fs (es ++ name ∷ []) < free fs es
free-less [] es name f found new = absurd (cc found)
free-less (g ∷ fs) es name f found new =
    let rest = free-more fs es name in
    let either = list_any-append (bytes_eq g.name) es (name ∷ []) in
    let same = bytes_eq-Decides name g.name in
    let own = bytes_eq-Decides g.name name in
    grind (arith, free-less fs es name f)

-- and one that was entered isn't left
free-found : (fs : List Fragment) (es : List (List ℕ)) (name : List ℕ) (f : Fragment) → find (is_fragment name) fs ≡ Some f → list_any (bytes_eq name) es ≡ true → free fs es < length fs
free-found [] es name f found old = absurd (cc found)
free-found (g ∷ fs) es name f found old = let rest = free-most fs es in let same = bytes_eq-Decides name g.name in grind (arith, free-found fs es name f)

module _ (plan : PlanOf) (ty : List ℕ) where
  abbrev left_in : Collected → ℕ
  left_in so_far = free plan.fragments so_far.entered

  abbrev with_name : Collected → List ℕ → Collected
  with_name so_far name = record { groups = so_far.groups; entered = so_far.entered ++ name ∷ [] }

  abbrev Shrinks : Entering → Type 0
  Shrinks enter = (so_far : Collected) (name : List ℕ) → left_in (enter so_far name) ≤ left_in so_far

  module _ (enter : Entering) (h : Shrinks enter) where
    mutual
      shrink-one : (so_far : Collected) (s : Selection) → left_in (collect_one plan ty enter so_far s) ≤ left_in so_far
      shrink-one so_far (Field place alias name given ds b) = grind arith
      shrink-one so_far (Spread place name ds) = let entered = h (with_name so_far name) name in let more = free-more plan.fragments so_far.entered name in grind arith
      shrink-one so_far (Inline place condition ds set) = let inside = shrink-set so_far set in grind arith

      shrink-set : (so_far : Collected) (s : SelectionSet) → left_in (collect_set plan ty enter so_far s) ≤ left_in so_far
      shrink-set so_far (set_at place ss) = shrink-all so_far ss

      shrink-all : (so_far : Collected) (ss : Selections) → left_in (collect_all plan ty enter so_far ss) ≤ left_in so_far
      shrink-all so_far no_selection = omega arith
      shrink-all so_far (and_selection s ss) = let one = shrink-one so_far s in let rest = shrink-all (collect_one plan ty enter so_far s) ss in omega (arith, one, rest)

    enter-shrinks : (so_far : Collected) (f : Option Fragment) → left_in (enter_fragment plan ty enter so_far f) ≤ left_in so_far
    enter-shrinks so_far f = grind (arith, shrink-set so_far)

  shrinks : (left : ℕ) → Shrinks (entering plan ty left)
  shrinks zero so_far name = omega arith
  shrinks (suc left) so_far name = enter-shrinks (entering plan ty left) (shrinks left) so_far (fragment_in plan.fragments name)

  -- ---- two ways of entering that are alike where less than `most` fragments are left

  abbrev AreAlike : ℕ → Entering → Entering → Type 0
  AreAlike most enter other = (so_far : Collected) (name : List ℕ) → ((f : Fragment) → fragment_in plan.fragments name ≡ Some f → left_in so_far < most) → enter so_far name ≡ other so_far name

  module _ (most : ℕ) (enter other : Entering) (h : Shrinks enter) (same : AreAlike most enter other) where
    mutual
      alike-one : (so_far : Collected) (s : Selection) → left_in so_far ≤ most → collect_one plan ty enter so_far s ≡ collect_one plan ty other so_far s
      alike-one so_far (Field place alias name given ds b) le = refl
      alike-one so_far (Spread place name ds) le =
          let entered : has_entered so_far name ≡ false → enter (with_name so_far name) name ≡ other (with_name so_far name) name =
          λ new. same (with_name so_far name) name (λ f found. let less = free-less plan.fragments so_far.entered name f found new in omega (arith, less, le)) in
          grind arith
      alike-one so_far (Inline place condition ds set) le = rw (alike-set so_far set le)

      alike-set : (so_far : Collected) (s : SelectionSet) → left_in so_far ≤ most → collect_set plan ty enter so_far s ≡ collect_set plan ty other so_far s
      alike-set so_far (set_at place ss) le = alike-all so_far ss le

      alike-all : (so_far : Collected) (ss : Selections) → left_in so_far ≤ most → collect_all plan ty enter so_far ss ≡ collect_all plan ty other so_far ss
      alike-all so_far no_selection le = refl
      alike-all so_far (and_selection s ss) le =
          let one = shrink-one enter h so_far s in
          alike-all (collect_one plan ty enter so_far s) ss (omega (arith, one, le)) ∙ ap (λ (c : Collected). collect_all plan ty other c ss) (alike-one so_far s le)

  -- more fragments to enter make no difference, where as many may be entered as are left
  entering-alike : (n m most : ℕ) → most ≤ n → most ≤ m → AreAlike most (entering plan ty n) (entering plan ty m)
  entering-alike zero zero most ln lm so_far name few = refl
  entering-alike zero (suc m) most ln lm so_far name few =
      by_option (λ o. so_far ≡ enter_fragment plan ty (entering plan ty m) so_far o) (fragment_in plan.fragments name) (λ _. refl) (λ f e. let less = few f e in absurd (omega (arith, less, ln)))
  entering-alike (suc n) zero most ln lm so_far name few =
      by_option (λ o. enter_fragment plan ty (entering plan ty n) so_far o ≡ so_far) (fragment_in plan.fragments name) (λ _. refl) (λ f e. let less = few f e in absurd (omega (arith, less, lm)))
  entering-alike (suc n) (suc m) most ln lm so_far name few =
      by_option (λ o. enter_fragment plan ty (entering plan ty n) so_far o ≡ enter_fragment plan ty (entering plan ty m) so_far o) (fragment_in plan.fragments name) (λ _. refl) (λ f e.
      let less = few f e in
      let below = entering-alike n m (left_in so_far) (omega (arith, less, ln)) (omega (arith, less, lm)) in
      rw (alike-set (left_in so_far) (entering plan ty n) (entering plan ty m) (shrinks n) below so_far f.selection_set (omega arith)))

  pub collects-alike : (n m : ℕ) (so_far : Collected) (ss : Selections) → length plan.fragments ≤ n → length plan.fragments ≤ m → collect_all plan ty (entering plan ty n) so_far ss ≡ collect_all plan ty (entering plan ty m) so_far ss
  collects-alike n m so_far ss ln lm = alike-all (length plan.fragments) _ _ (shrinks n) (entering-alike n m _ ln lm) so_far ss (free-most plan.fragments so_far.entered)

  -- a fragment that is entered is one less that may be
  pub enters : (so_far : Collected) (name : List ℕ) → has_entered so_far name ≡ true → entering plan ty (length plan.fragments) so_far name ≡ enter_fragment plan ty (entering plan ty (length plan.fragments)) so_far (fragment_in plan.fragments name)
  enters so_far name there = let n = length plan.fragments in entering-alike (length plan.fragments) (suc (length plan.fragments)) (length plan.fragments) (omega arith) (omega arith) so_far name (λ f e. free-found plan.fragments so_far.entered name f e there)
