-- *Batches*: the keys of one loader, cut in order into pieces.
use Rattle.std.specs.Prelude.{◌≡◌, ◌<◌, ◌≤◌, ℕ, suc, zero, List, [], ◌∷◌, ◌++◌, Option, Some, None, take, drop, length}

module _ {K : Type 0} where
  -- the first n keys, then the first n of the rest, and so on, in at most `most` pieces
  abbrev pub pieces : ℕ → ℕ → List K → List (List K)
  pieces zero n keys = []
  pieces (suc most) n [] = []
  pieces (suc most) n (k ∷ keys) = take n (k ∷ keys) ∷ pieces most n (drop n (k ∷ keys))

  -- no keys are in no piece, and without a limit all keys are in one
  abbrev pub batches : Option ℕ → List K → List (List K)
  batches limit [] = []
  batches None (k ∷ keys) = (k ∷ keys) ∷ []
  batches (Some n) (k ∷ keys) = pieces (length (k ∷ keys)) n (k ∷ keys)

  -- the pieces one after another
  abbrev pub joined : List (List K) → List K
  joined [] = []
  joined (p ∷ ps) = p ++ joined ps

  -- each piece has the limit's length but the last, which has the rest; without a limit there is one at most
  abbrev pub AreFull : Option ℕ → List (List K) → Type 0
  AreFull limit [] = Unit {0}
  AreFull None (p ∷ []) = 0 < length p
  AreFull None (p ∷ q ∷ ps) = ⊥
  AreFull (Some n) (p ∷ []) = (0 < length p) × (length p ≤ n)
  AreFull (Some n) (p ∷ q ∷ ps) = (length p ≡ n) × AreFull (Some n) (q ∷ ps)

  -- the keys, cut in order under a limit: no other list of pieces is
  pub record AreBatches (limit : Option ℕ) (keys : List K) (cut : List (List K)) : Type 0 where
    pub in_order : joined cut ≡ keys
    pub full : AreFull limit cut
