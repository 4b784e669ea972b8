-- Each step of a queue keeps its rule.
use Rattle.std.proofs.Common.{◌≡◌, ◌≢◌, ℕ, zero, suc, ◌+◌, ◌≤◌, List, [], ◌∷◌, ◌++◌, length, set, sym, refl, ap, ◌∙◌, subst, append_assoc, append-nil, arith, IsPermutation, ⊎_elim, length-append, Contains}
use Rattle.std.proofs.lemmas.List.Sorted.{IsPermutation-refl, IsPermutation-trans, IsPermutation-append_left}
use Rattle.std.proofs.lemmas.List.{set_comm}
use Rattle.std.proofs.lemmas.List.Elements.{Contains-append_right}
use mathlib.Core.Option.{some, some-injective, some-ne-none}
use lib.ListN.{get_elem?}
use Rattle.crossbeam_queue.specs.Fifo.{Pushes, Pops, Forks, Merges, Learns}
use Rattle.crossbeam_queue.proofs.Lists.{at_set, at_snoc, set_else}
use Rattle.load_queue.specs.Orders.{CutOf}
use Rattle.batch_workers.specs.declared.desk.Knowledge.{Knowledge}
use Rattle.batch_workers.specs.Desk.{knowledge, left_half, right_half, both_halves, taken_of, parts_of, Fits, Handed, Puts, Takes, Knows}
use Rattle.batch_workers.proofs.Knowing.{parts_set, parts_snoc, parts_at, taken_same, taken_snoc, taken_more, taken_less, taken_by_one}

AllFit : List CutOf → List Knowledge → Type 0
AllFit orders views = (port : ℕ) (v : Knowledge) → get_elem? views port ≡ some v → Fits orders v

fit_set : (orders : List CutOf) (views : List Knowledge) (port : ℕ) (w : Knowledge) → Fits orders w → ((j : ℕ) (u : Knowledge) → j ≢ port → get_elem? views j ≡ some u → Fits orders u) → AllFit orders (set views port w)
unfolding AllFit
fit_set orders views port w mine others j u e = ⊎_elim (λ (x : (j ≡ port) × (w ≡ u)). subst (Fits orders) x.1 mine) (λ (x : (j ≢ port) × (get_elem? views j ≡ some u)). others j u x.0 x.1) (at_set views port j w u e)

-- two passes have their parts together
two_parts : (views : List Knowledge) (port other : ℕ) (v u : Knowledge) → other ≢ port → get_elem? views port ≡ some v → get_elem? views other ≡ some u → v.parts + u.parts ≤ parts_of views
two_parts views port other v u apart at at' =
    let s = parts_set views port v (knowledge 0 [] []) at in
    let still : get_elem? (set views port (knowledge 0 [] [])) other ≡ some u = set_else views port other (knowledge 0 [] []) apart ∙ at' in
    let t = parts_at (set views port (knowledge 0 [] [])) other u still in
    omega arith

only_one : (l : List Knowledge) (a : Knowledge) (port : ℕ) (v : Knowledge) → get_elem? (a ∷ []) port ≡ some v → a ≡ v
only_one l a zero v e = some-injective a v e
only_one l a (suc port) v e = absurd (some-ne-none v (sym e))

pub begins : Handed [] (knowledge 16 [] [] ∷ [])
begins = record {
  orders = [];
  gone = [];
  waiting = refl;
  each_once = IsPermutation-refl [];
  parts = refl;
  fits = λ port v e. subst (Fits []) (only_one [] (knowledge 16 [] []) port v e) ((λ _. refl), λ _. refl);
}

pub puts : (n port : ℕ) (v : Knowledge) (x : CutOf) → v.parts ≡ 16 → Pushes Handed n port v x (Puts v x)
unfolding AllFit
puts n port v x whole items views room h at =
    let w = knowledge v.parts (v.all ++ x ∷ []) v.taken in
    let mine = h.fits port v at in
    let known : v.all ≡ h.orders = mine.0 (omega arith) in (
      w,
      record {
        orders = h.orders ++ x ∷ [];
        gone = h.gone;
        waiting = ap (λ l. l ++ x ∷ []) h.waiting ∙ append_assoc h.gone items (x ∷ []);
        each_once = rw (taken_same views port v w at refl) h.each_once;
        parts = let s = parts_set views port v w at in let p = h.parts in omega arith;
        fits = fit_set (h.orders ++ x ∷ []) views port w ((λ _. ap (λ l. l ++ x ∷ []) known), mine.1)
            (λ j u apart e. let two = two_parts views port j v u apart at e in let p = h.parts in ((λ some_part. absurd (some_part (omega arith))), (h.fits j u e).1));
      },
      refl,
    )

pub takes : (port : ℕ) (v : Knowledge) → v.parts ≢ 0 → Pops Handed port v (Takes v)
unfolding AllFit
takes port v part x items views h at =
    let w = knowledge v.parts v.all (v.taken ++ x ∷ []) in
    let mine = h.fits port v at in
    let known : v.all ≡ h.gone ++ x ∷ items = mine.0 part ∙ h.waiting in (
      w,
      record {
        orders = h.orders;
        gone = h.gone ++ x ∷ [];
        waiting = h.waiting ∙ sym (append_assoc h.gone (x ∷ []) items);
        each_once = IsPermutation-trans _ _ _ (IsPermutation-append_left (x ∷ []) _ _ h.each_once) (taken_more views port v w (x ∷ []) at refl);
        parts = let s = parts_set views port v w at in let p = h.parts in omega arith;
        fits = fit_set h.orders views port w (mine.0, λ none. absurd (part none)) (λ j u apart e. h.fits j u e);
      },
      (refl, rw known (Contains-append_right h.gone (x ∷ items) x (let first : Contains (x ∷ items) x = (0, omega arith, refl) in first))),
    )

pub forks : (port : ℕ) (v : Knowledge) → v.parts ≢ 0 → Forks Handed port v (left_half v) (right_half v)
unfolding AllFit
forks port v part items views h at =
    let l = left_half v in
    let r = right_half v in
    let vs = set views port l in
    let mine = h.fits port v at in
    let same : taken_of (vs ++ r ∷ []) ≡ taken_of views = taken_snoc vs r ∙ append-nil (taken_of vs) ∙ taken_same views port v l at refl in
    let left : AllFit h.orders vs = fit_set h.orders views port l ((λ _. mine.0 part), λ none. absurd (part (omega arith))) (λ j u apart e. h.fits j u e) in
    record {
      orders = h.orders;
      gone = h.gone;
      waiting = h.waiting;
      each_once = rw same h.each_once;
      parts = let s = parts_set views port v l at in let t = parts_snoc vs r in let p = h.parts in omega arith;
      fits = λ j u e. ⊎_elim (λ x. left j u x) (λ (is : r ≡ u). subst (Fits h.orders) is ((λ _. mine.0 part), λ _. refl)) (at_snoc vs r u j e);
    }

pub merges : (port : ℕ) (v : Knowledge) (other : ℕ) (u : Knowledge) → v.parts ≢ 0 → Merges Handed port v other u (both_halves v u) (knowledge 0 [] [])
unfolding AllFit
merges port v other u part items views h at apart at' =
    let both = both_halves v u in
    let spent = knowledge 0 [] [] in
    let vs = set views port both in
    let was : get_elem? views other ≡ some u = sym (set_else views port other both apart) ∙ at' in
    let mine = h.fits port v at in
    let us = set views other spent in
    let still : get_elem? us port ≡ some v = set_else views other port spent (λ q. apart (sym q)) ∙ at in
    let turned : set vs other spent ≡ set us port both = set_comm views port other both spent (λ q. apart (sym q)) in
    let less : IsPermutation (taken_of views) (taken_of us ++ u.taken) = taken_less views other u spent was refl in
    let more : IsPermutation (taken_of us ++ u.taken) (taken_of (set us port both)) = taken_more us port v both u.taken still refl in
    let moved : IsPermutation h.gone (taken_of (set us port both)) = IsPermutation-trans _ _ _ h.each_once (IsPermutation-trans _ _ _ less more) in
    let first : AllFit h.orders vs = fit_set h.orders views port both ((λ _. mine.0 part), λ none. absurd (part (omega arith))) (λ j w _ e. h.fits j w e) in
    record {
      orders = h.orders;
      gone = h.gone;
      waiting = h.waiting;
      each_once = rw turned moved;
      parts = let s = parts_set views port v both at in let t = parts_set vs other u spent at' in let p = h.parts in omega arith;
      fits = fit_set h.orders vs other spent ((λ none. absurd (none refl)), λ _. refl) (λ j w _ e. first j w e);
    }

pub learns : (port : ℕ) (v : Knowledge) → v.parts ≢ 0 → Learns Handed port v (Knows v)
learns port v part items views h at =
    let known : v.all ≡ h.gone ++ items = (h.fits port v at).0 part ∙ h.waiting in (
      (let e = ap length known in omega (arith, length-append h.gone items)),
      (λ whole.
          let alone : taken_of views ≡ v.taken = taken_by_one views port v at (λ j u apart e. let two = two_parts views port j v u apart at e in let p = h.parts in (h.fits j u e).1 (omega arith)) in
          let p : IsPermutation h.gone v.taken = rw alone at h.each_once in
          rw known (IsPermutation-append_left items _ _ p)),
    )
