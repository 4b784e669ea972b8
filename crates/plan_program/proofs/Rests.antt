-- Lemmas on what is left to collect, as selections are put there and taken from there.
use Rattle.std.proofs.Common.{◌≡◌, ◌∙◌, sym, ap, refl, ℕ, zero, suc, ◌+◌, ◌-◌, ◌<◌, ◌≤◌, Bool, true, false, List, [], ◌∷◌, ◌++◌, length, Option, Some, None, bytes_eq, append-nil, arith}
use Rattle.std.specs.Prelude.{option_to_list}
use Rattle.text_place.specs.declared.place.Place.{Place}
use Rattle.gq_parser.specs.declared.tree.Selection as rust
use Rattle.gq_parser.specs.Tree.{Selection, Field, Spread, Inline, set_at, Selections, and_selection, Fragment, map_selections}
use Rattle.gq_check.specs.Plans.{PlanOf, fragment_in}
use Rattle.plan_program.specs.declared.collection.Rest.{Rest}
use Rattle.plan_program.specs.Groups.{Collected, Entering, collect_one, collect_all, entering}
use Rattle.plan_program.specs.Collecting.{collect_rest, collect_rests, collect_left}
use Rattle.plan_program.specs.Steps.{steps_one, steps_set, steps_all, steps_inside, most_steps, steps_rest, steps_if, all_steps}

-- a rest that is put last is collected first
pub rests-push : (plan : PlanOf) (ty : List ℕ) (so_far : Collected) (rs : List Rest) (r : Rest) → collect_rests plan ty so_far (rs ++ r ∷ []) ≡ collect_rests plan ty (collect_rest plan ty so_far r) rs
rests-push plan ty so_far [] r = refl
rests-push plan ty so_far (q ∷ rs) r = ap (λ (c : Collected). collect_rest plan ty c q) (rests-push plan ty so_far rs r)

pub steps-push : (fs : List Fragment) (rs : List Rest) (r : Rest) → all_steps fs (rs ++ r ∷ []) ≡ all_steps fs rs + steps_rest fs r
steps-push fs [] r = omega arith
steps-push fs (q ∷ rs) r = let e = steps-push fs rs r in omega (arith, e)

-- a fragment takes no more steps than the one that takes most
pub steps-found : (inside : ℕ) (fs : List Fragment) (name : List ℕ) (f : Fragment) → Some f ≡ fragment_in fs name → steps_set inside f.selection_set ≤ most_steps inside fs
steps-found inside [] name f h = absurd (cc h)
steps-found inside (g ∷ gs) name f h = go (bytes_eq name g.name) refl (steps-found inside gs name f)
  where
    go : (b : Bool) → bytes_eq name g.name ≡ b → (Some f ≡ fragment_in gs name → steps_set inside f.selection_set ≤ most_steps inside gs) → steps_set inside f.selection_set ≤ most_steps inside (g ∷ gs)
    go true e later = let same : Some f ≡ Some g = rw e at h in let it : f ≡ g = cc same in rw it (omega arith)
    go false e later = let other : Some f ≡ fragment_in gs name = rw e at h in omega (arith, later other)

-- the steps of a fragment are within those of entering one
pub steps-entered : (fs : List Fragment) (left : ℕ) (name : List ℕ) (f : Fragment) (p : Place) (ss : Selections)
    → 0 < left → Some f ≡ fragment_in fs name → f.selection_set ≡ set_at p ss → steps_all (steps_inside fs (left - 1)) ss ≤ steps_inside fs left
steps-entered fs zero name f p ss pos found set = absurd (omega arith)
steps-entered fs (suc n) name f p ss pos found set = let e : suc n - 1 ≡ n = omega arith in let h = steps-found (steps_inside fs n) fs name f found in rw e (rw set at h)

-- each selection takes a step
pub some_steps : (inside : ℕ) (s : Selection) → 0 < steps_one inside s
some_steps inside (Field p alias name given ds b) = omega arith
some_steps inside (Spread p name ds) = omega arith
some_steps inside (Inline p c ds set) = omega arith

rests-first : (plan : PlanOf) (ty : List ℕ) (c d : Collected) (r others : Rest) (s : Selection)
    → d ≡ collect_one plan ty (entering plan ty r.enterable) c s
    → map_selections r.selections.now ≡ and_selection s (map_selections others.selections.now) → r.enterable ≡ others.enterable → collect_rest plan ty d others ≡ collect_rest plan ty c r
rests-first plan ty c d r others s one first same = rw (one, ← same, first) refl

steps-first : (fs : List Fragment) (r others : Rest) (s : Selection)
    → map_selections r.selections.now ≡ and_selection s (map_selections others.selections.now) → r.enterable ≡ others.enterable → steps_rest fs r ≡ steps_one (steps_inside fs r.enterable) s + steps_rest fs others
steps-first fs r others s first same = rw (first, ← same) refl

-- nothing more is collected where no selection is left
collects-none : (plan : PlanOf) (ty : List ℕ) (enter : Entering) (c : Collected) (ss : List rust.Selection) → length ss ≡ 0 → collect_all plan ty enter c (map_selections ss) ≡ c
collects-none plan ty enter c [] none = refl
collects-none plan ty enter c (s ∷ ss) none = absurd (omega (arith, none))

steps-none : (inside : ℕ) (ss : List rust.Selection) → length ss ≡ 0 → steps_all inside (map_selections ss) ≡ 1
steps-none inside [] none = refl
steps-none inside (s ∷ ss) none = absurd (omega (arith, none))

-- the last rest that is left comes next, where there is one
pub rests-last : (plan : PlanOf) (ty : List ℕ) (c : Collected) (old new : List Rest) (r : Rest) (next : Option Rest) → length r.selections.now ≡ 0
    → old ≡ new ++ option_to_list next → (next ≡ None → length old ≡ 0) → collect_left plan ty c next new ≡ collect_left plan ty c (Some r) old
rests-last plan ty c [] new r None none is nothing = sym (collects-none plan ty (entering plan ty r.enterable) c r.selections.now none)
rests-last plan ty c (q ∷ qs) new r None none is nothing = absurd (omega (arith, nothing refl))
rests-last plan ty c old new r (Some q) none is nothing =
    sym (rests-push plan ty c new q) ∙ (ap (λ (rs : List Rest). collect_rests plan ty c rs) (sym is)
    ∙ ap (λ (e : Collected). collect_rests plan ty e old) (sym (collects-none plan ty (entering plan ty r.enterable) c r.selections.now none)))

pub steps-last : (fs : List Fragment) (old new : List Rest) (r : Rest) (next : Option Rest) → length r.selections.now ≡ 0 → old ≡ new ++ option_to_list next
    → all_steps fs new + steps_if fs next < all_steps fs old + steps_rest fs r
steps-last fs old new r None none is =
    let one : steps_rest fs r ≡ 1 = steps-none (steps_inside fs r.enterable) r.selections.now none in
    let same : all_steps fs old ≡ all_steps fs new = ap (all_steps fs) (is ∙ append-nil new) in
    omega (arith, one, same)
steps-last fs old new r (Some q) none is =
    let one : steps_rest fs r ≡ 1 = steps-none (steps_inside fs r.enterable) r.selections.now none in
    let same : all_steps fs old ≡ all_steps fs new + steps_rest fs q = ap (all_steps fs) is ∙ steps-push fs new q in
    omega (arith, one, same)

-- the first selection is collected but for what is inside it, which comes before the others
pub rests-inside : (plan : PlanOf) (ty : List ℕ) (c d : Collected) (old new : List Rest) (r others inner : Rest) (s : Selection)
    → collect_rest plan ty d inner ≡ collect_one plan ty (entering plan ty r.enterable) c s
    → map_selections r.selections.now ≡ and_selection s (map_selections others.selections.now) → r.enterable ≡ others.enterable → new ≡ old ++ others ∷ []
    → collect_left plan ty d (Some inner) new ≡ collect_left plan ty c (Some r) old
rests-inside plan ty c d old new r others inner s one first same is =
    rw (is, rests-push plan ty (collect_rest plan ty d inner) old others)
    (ap (λ (e : Collected). collect_rests plan ty e old) (rests-first plan ty c (collect_rest plan ty d inner) r others s one first same))

pub steps-inside : (fs : List Fragment) (old new : List Rest) (r others inner : Rest) (s : Selection) → steps_rest fs inner < steps_one (steps_inside fs r.enterable) s
    → map_selections r.selections.now ≡ and_selection s (map_selections others.selections.now) → r.enterable ≡ others.enterable → new ≡ old ++ others ∷ []
    → all_steps fs new + steps_rest fs inner < all_steps fs old + steps_rest fs r
steps-inside fs old new r others inner s one first same is =
    let a : all_steps fs new ≡ all_steps fs old + steps_rest fs others = ap (all_steps fs) is ∙ steps-push fs old others in
    let b = steps-first fs r others s first same in
    omega (arith, a, b, one)
