-- The loader that cut an order is there, and stays so.
use Rattle.std.proofs.Common.{◌≡◌, ◌<◌, List, [], ◌∷◌, length, get_or, refl, ap, ◌∙◌, subst}
use Rattle.std.specs.Prelude.{All, slice_get}
use Rattle.std.proofs.lemmas.List.{length-map}
use Rattle.std.proofs.lemmas.Option.{slice_get_within}
use Rattle.load_queue.specs.Loaders.{LoaderOf, AreOnRecord}
use Rattle.load_queue.specs.Orders.{CutOf, identities, IsCutBy, AreCutBy}

module _ {S : Type 0} where
  pub has-loader : (ls : List (LoaderOf S)) (o : CutOf) → IsCutBy ls o → o.loader < length ls
  has-loader ls o e = subst (λ n. o.loader < n) (length-map ls (λ (l : LoaderOf S). l.identity)) (slice_get_within (identities ls) o.loader o.identity e)

  -- each order's loader is there
  pub have-loaders : (ls : List (LoaderOf S)) (os : List CutOf) → AreCutBy ls os → All (λ (o : CutOf). o.loader < length ls) os
  have-loaders ls os h k d lt = has-loader ls (get_or os k d) (h k d lt)

  -- over loaders with the same identities
  pub cut-over : (xs ys : List (LoaderOf S)) → identities ys ≡ identities xs → (os : List CutOf) → AreCutBy xs os → AreCutBy ys os
  cut-over xs ys same os h k d lt = ap (λ ids. slice_get ids (get_or os k d).loader) same ∙ h k d lt

  -- loaders that are on record are the same ones
  pub record-same_ones : (xs ys : List (LoaderOf S)) → AreOnRecord xs ys → identities ys ≡ identities xs
  record-same_ones [] [] h = refl
  record-same_ones [] (y ∷ ys) h = absurd h
  record-same_ones (x ∷ xs) [] h = absurd h
  record-same_ones (x ∷ xs) (y ∷ ys) h = ap (λ i. i ∷ identities ys) h.0.same ∙ ap (λ is. x.identity ∷ is) (record-same_ones xs ys h.1)
