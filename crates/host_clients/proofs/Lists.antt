-- Loops over lists, that keep what was made of the items so far.
use Rattle.std.proofs.Common.{◌≡◌, ◌<◌, ◌+◌, ℕ, List, [], ◌∷◌, ◌++◌, get_or, take, map, length, sym, ap, ◌∙◌}
use Rattle.std.proofs.lemmas.List.{take_more, map_push, flat_map_more}
use Rattle.std.specs.List.{flat_map}

module _ {X : Type 0} (xs : List X) (i : ℕ) (x : X) (lt : i < length xs) (is : x ≡ get_or xs i x) where
  pub next : take (i + 1) xs ≡ take i xs ++ x ∷ []
  next = take_more xs i x lt ∙ ap (λ y. take i xs ++ y ∷ []) (sym is)

  pub map-next : {Y : Type 0} (f : X → Y) → map f (take i xs) ++ f x ∷ [] ≡ map f (take (i + 1) xs)
  map-next f = sym (ap (map f) next ∙ map_push f (take i xs) x)

  pub map-map-next : {Y Z : Type 0} (g : Y → Z) (f : X → Y) → map g (map f (take i xs)) ++ g (f x) ∷ [] ≡ map g (map f (take (i + 1) xs))
  map-map-next g f = sym (ap (map g) (sym (map-next f)) ∙ map_push g (map f (take i xs)) (f x))

  pub flat-next : {Y Z : Type 0} (g : Y → List Z) (f : X → Y) → flat_map g (map f (take i xs)) ++ g (f x) ≡ flat_map g (map f (take (i + 1) xs))
  flat-next g f = flat_map_more g [] (map f (take i xs)) (f x) ∙ ap (flat_map g) (map-next f)
