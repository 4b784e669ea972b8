-- Every schedule keeps the orders.
use Rattle.std.proofs.Common.{◌≡◌, ℕ, List, [], ◌∷◌, ◌++◌, Option, Some, None, IsPermutation, map, ◌==◌, true, false, Bool, refl, sym, ap, ◌∙◌, append_assoc, append-nil}
use Rattle.std.proofs.lemmas.List.Sorted.{IsPermutation-refl, IsPermutation-trans, IsPermutation-sym, IsPermutation-append_left, IsPermutation-append_right, IsPermutation-middle, IsPermutation-cons}
use Rattle.load_queue.specs.Orders.{OrderOf}
use Rattle.batch_workers.specs.Core.{Event, take, store, Core, core, held_by, without, taken_by, stored_by, step, run, IsOf, Conserved}

-- the order that a worker holds, and those that the others hold
apart : (w : ℕ) (hs : List (ℕ × OrderOf)) (x : OrderOf) → held_by w hs ≡ Some x → IsPermutation (map (λ h. h.1) hs) (x ∷ map (λ h. h.1) (without w hs))
apart w [] x e = absurd (cc)
apart w (h ∷ hs) x e =
    let P : Bool → Type 0 = λ b. (h.0 == w ≡ b) → IsPermutation (map (λ u. u.1) (h ∷ hs)) (x ∷ map (λ u. u.1) (without w (h ∷ hs))) in
    let yes_case : P true = λ q. let v : h.1 ≡ x = (let f : Some h.1 ≡ Some x = rw q at e in cc) in rw (q, v) (IsPermutation-refl _) in
    let no_case : P false = λ q. let rest : held_by w hs ≡ Some x = rw q at e in
    rw q (IsPermutation-trans _ _ _ (IsPermutation-cons h.1 _ _ (apart w hs x rest)) (IsPermutation-middle (h.1 ∷ []) x (map (λ u. u.1) (without w hs)))) in
    let all : (b : Bool) → P b = elim [ true ↦ yes_case | false ↦ no_case ] in
    all (h.0 == w) refl

takes_keep : (orders : List OrderOf) (w : ℕ) (s : Core) (o : Option OrderOf) (waiting : List OrderOf) → s.waiting ≡ waiting → IsOf orders s → IsOf orders (taken_by w s o waiting)
takes_keep orders w s (Some x) waiting e h = h
takes_keep orders w s None [] e h = h
takes_keep orders w s None (x ∷ xs) e h = record {
  each_once =
      let tail = map (λ u. u.1) s.held ++ s.stored in
      let p : IsPermutation ((x ∷ xs) ++ tail) (xs ++ (x ∷ tail)) = IsPermutation-sym _ _ (IsPermutation-middle xs x tail) in
      IsPermutation-trans _ _ _ (rw e at h.each_once) p;
  gone = h.gone ++ x ∷ [];
  suffix = h.suffix ∙ ap (λ l. h.gone ++ l) e ∙ sym (append_assoc h.gone (x ∷ []) xs);
}

stores_keep : (orders : List OrderOf) (w : ℕ) (s : Core) (o : Option OrderOf) → held_by w s.held ≡ o → IsOf orders s → IsOf orders (stored_by w s o)
stores_keep orders w s None e h = h
stores_keep orders w s (Some x) e h = record {
  each_once =
      let rest = map (λ u. u.1) (without w s.held) in
      let p : IsPermutation (map (λ u. u.1) s.held ++ s.stored) ((x ∷ rest) ++ s.stored) = IsPermutation-append_left s.stored _ _ (apart w s.held x e) in
      let q : IsPermutation ((x ∷ rest) ++ s.stored) (rest ++ (x ∷ s.stored)) = IsPermutation-sym _ _ (IsPermutation-middle rest x s.stored) in
      IsPermutation-trans _ _ _ h.each_once (IsPermutation-append_right s.waiting _ _ (IsPermutation-trans _ _ _ p q));
  gone = h.gone;
  suffix = h.suffix;
}

step_keeps : (orders : List OrderOf) (s : Core) (e : Event) → IsOf orders s → IsOf orders (step s e)
step_keeps orders s (take w) h = takes_keep orders w s (held_by w s.held) s.waiting refl h
step_keeps orders s (store w) h = stores_keep orders w s (held_by w s.held) refl h

run_keeps : (orders : List OrderOf) (s : Core) (es : List Event) → IsOf orders s → IsOf orders (run s es)
run_keeps orders s [] h = h
run_keeps orders s (e ∷ es) h = run_keeps orders (step s e) es (step_keeps orders s e h)

pub conserved : Conserved
conserved orders events = run_keeps orders (core orders [] []) events (record {
  each_once = rw append-nil (IsPermutation-refl orders);
  gone = [];
  suffix = refl;
})
