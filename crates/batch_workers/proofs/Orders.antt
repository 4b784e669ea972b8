-- Receipts in the order of the orders.
use Rattle.std.proofs.Common.{◌≡◌, ℕ, List, [], ◌∷◌, map, get_or, set, sym, refl, ap, ◌∙◌, subst, IsPermutation, All, arith}
use Rattle.std.specs.Prelude.{swap}
use Rattle.std.specs.List.Sorted.{apply_swaps, SwapsInRange}
use Rattle.std.proofs.lemmas.List.{map-set, length-map}
use Rattle.std.proofs.Math.ListN.{get_or-map}
use Rattle.std.proofs.lemmas.List.Sorted.{All-permutation, IsPermutation-map, IsPermutation-sym}
use Rattle.std.proofs.lemmas.List.Elements.{All-nil, All-cons, All-tail}
use Rattle.load_memory.specs.Keys.{KeyOf}
use Rattle.load_memory.specs.declared.shelf.Shelf.{Shelf}
use Rattle.load_memory.specs.declared.shelf.Receipt.{Receipt}
use Rattle.load_queue.specs.Answers.{AnswerOf}
use Rattle.load_queue.specs.Orders.{CutOf}
use Rattle.load_queue.specs.Loaders.{LoaderOf}
use Rattle.batch_workers.specs.Round.{Shows, EachShown, AllAnswered}

module _ {X Y : Type 0} (f : X → Y) where
  map_swap : (xs : List X) (i j : ℕ) → map f (swap xs i j) ≡ swap (map f xs) i j
  map_swap [] i j = refl
  map_swap (d ∷ ys) i j = map-set f (set (d ∷ ys) i (get_or (d ∷ ys) j d)) j (get_or (d ∷ ys) i d)
      ∙ (λ k. set ((map-set f (d ∷ ys) i (get_or (d ∷ ys) j d) ∙ ap (set (map f (d ∷ ys)) i) (sym (get_or-map f (d ∷ ys) j d))) k) j (sym (get_or-map f (d ∷ ys) i d) k))

  map_swaps : (xs : List X) (ps : List (ℕ × ℕ)) → map f (apply_swaps xs ps) ≡ apply_swaps (map f xs) ps
  map_swaps xs [] = refl
  map_swaps xs (p ∷ ps) = map_swap (apply_swaps xs ps) p.0 p.1 ∙ ap (λ l. swap l p.0 p.1) (map_swaps xs ps)

  -- says what permutes the images permutes the elements
  pub lifted : (xs : List X) (ys : List Y) → IsPermutation (map f xs) ys → (zs : List X) × IsPermutation xs zs × (map f zs ≡ ys)
  lifted xs ys p = (
    apply_swaps xs p.moves,
    record { moves = p.moves; below = subst (λ n. SwapsInRange n p.moves) (length-map xs f) p.below; is = refl },
    map_swaps xs p.moves ∙ sym p.is,
  )

module _ {S : Type 0} (may : S → List KeyOf → AnswerOf → Type 0) (loaders : List (LoaderOf S)) (shelf : Shelf) where
  abbrev Both : CutOf × Receipt → Type 0
  Both p = Shows may loaders shelf p.0 p.1

  paired : (os : List CutOf) (rs : List Receipt) → EachShown may loaders shelf os rs → (ps : List (CutOf × Receipt)) × (map (λ p. p.0) ps ≡ os) × (map (λ p. p.1) ps ≡ rs) × All Both ps
  paired [] [] h = ([], refl, refl, All-nil Both)
  paired [] (r ∷ rs) h = absurd h
  paired (o ∷ os) [] h = absurd h
  paired (o ∷ os) (r ∷ rs) h = let rest = paired os rs h.1 in ((o, r) ∷ rest.0, ap (λ l. o ∷ l) rest.1, ap (λ l. r ∷ l) rest.2, All-cons Both (o, r) rest.0 h.0 rest.3)

  each_shown : (ps : List (CutOf × Receipt)) → All Both ps → EachShown may loaders shelf (map (λ p. p.0) ps) (map (λ p. p.1) ps)
  each_shown [] h = tt
  each_shown (p ∷ ps) h = (h 0 p (omega arith), each_shown ps (All-tail Both p ps h))

  -- the receipts, in the order of the orders
  pub in_order : (orders : List CutOf) (receipts : List Receipt) → AllAnswered may loaders shelf orders receipts → (rs : List Receipt) × IsPermutation receipts rs × EachShown may loaders shelf orders rs
  in_order orders receipts h =
      let ps = paired h.taken receipts h.fit in
      let back : IsPermutation (map (λ p. p.0) ps.0) orders = rw ps.1 (IsPermutation-sym orders h.taken h.each_once) in
      let zs = lifted (λ p. p.0) ps.0 orders back in (
        map (λ p. p.1) zs.0,
        subst (λ l. IsPermutation l (map (λ p. p.1) zs.0)) ps.2 (IsPermutation-map (λ p. p.1) ps.0 zs.0 zs.1),
        subst (λ l. EachShown may loaders shelf l (map (λ p. p.1) zs.0)) zs.2 (each_shown zs.0 (All-permutation Both ps.0 zs.0 zs.1 ps.3)),
      )
