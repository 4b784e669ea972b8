-- The pieces of keys that are cut off the front, one after another.
use Rattle.std.proofs.Common.{◌≡◌, ℕ, zero, suc, ◌<◌, ◌≤◌, List, [], ◌∷◌, ◌++◌, map, length, take, drop, refl, ap, arith, length-drop, append_assoc, None, ◌∙◌, Option, Some, inl, inr}
use Rattle.std.proofs.Math.ListN.{drop_of_length-le}
use Rattle.std.proofs.Math.Nat.{le_refl}
use Rattle.std.proofs.lemmas.List.{append-nil, take-append-drop, length-take, take-map, drop-map, length-map}
use Rattle.std.proofs.lemmas.Bool.{cases_lt}
use Rattle.load_memory.specs.Keys.{KeyOf}
use Rattle.load_queue.specs.Orders.{CutOf, cut_of}
use Rattle.load_queue.specs.Batches.{pieces, batches, joined, AreFull, AreBatches}

pub pieces-enough : {K : Type 0} (n f g : ℕ) (keys : List K) → length keys ≤ f → length keys ≤ g → 0 < n → pieces f n keys ≡ pieces g n keys
pieces-enough n zero zero keys a b p = refl
pieces-enough n zero (suc g) [] a b p = refl
pieces-enough n zero (suc g) (k ∷ keys) a b p = absurd (omega arith)
pieces-enough n (suc f) zero [] a b p = refl
pieces-enough n (suc f) zero (k ∷ keys) a b p = absurd (omega arith)
pieces-enough n (suc f) (suc g) [] a b p = refl
pieces-enough n (suc f) (suc g) (k ∷ keys) a b p =
    let falls = length-drop n (k ∷ keys) in
    ap (λ ps. take n (k ∷ keys) ∷ ps) (pieces-enough n f g (drop n (k ∷ keys)) (omega (arith, falls, a, p)) (omega (arith, falls, b, p)) p)

-- the pieces of what is left
abbrev pub left : {X K : Type 0} → (X → K) → ℕ → List X → List (List K)
left v n xs = pieces (length xs) n (map v xs)

module _ {X K : Type 0} (v : X → K) (n : ℕ) (positive : 0 < n) where
  pub left-step : (rest : List X) → 0 < length rest → left v n rest ≡ map v (take n rest) ∷ left v n (drop n rest)
  left-step [] some = absurd (omega arith)
  left-step (x ∷ rest) some =
      let more = drop n (x ∷ rest) in
      let fits : length more ≤ length rest = omega (arith, length-drop n (x ∷ rest), positive) in
      rw (take-map v n (x ∷ rest), drop-map v n (x ∷ rest)) (ap (λ ps. map v (take n (x ∷ rest)) ∷ ps) (pieces-enough n (length rest) (length more) (map v more) (omega (arith, length-map more v, fits)) (omega (arith, length-map more v)) positive))

-- one more is done, and one fewer is left
pub one-more : {A B : Type 0} (f : B → A) (done : List A) (a : A) (b : B) (rest all : List B) (whole : List A) → done ++ map f all ≡ whole → all ≡ b ∷ rest → a ≡ f b → (done ++ a ∷ []) ++ map f rest ≡ whole
one-more f done a b rest all whole e same is = rw (append_assoc done (a ∷ []) (map f rest), is) (rw same at e)

pub none-left : {X : Type 0} (xs : List X) → length xs ≡ 0 → xs ≡ []
none-left [] e = refl
none-left (x ∷ xs) e = absurd (omega arith)

-- the last is done, and none is left
pub last-one : {A B : Type 0} (f : B → A) (done : List A) (a : A) (b : B) (all : List B) (whole : List A) → done ++ map f all ≡ whole → all ≡ b ∷ [] → a ≡ f b → done ++ a ∷ [] ≡ whole
last-one f done a b all whole e same is = rw is (rw same at e)

pieces-empty : {K : Type 0} (most n : ℕ) → pieces {K = K} most n [] ≡ []
pieces-empty zero n = refl
pieces-empty (suc most) n = refl

take-all : {K : Type 0} (n : ℕ) (keys : List K) → length keys ≤ n → take n keys ≡ keys
take-all zero [] le = refl
take-all zero (k ∷ keys) le = absurd (omega arith)
take-all (suc n) [] le = refl
take-all (suc n) (k ∷ keys) le = ap (λ ks. k ∷ ks) (take-all n keys (omega arith))

-- without a limit all keys are one piece
pub batches-unlimited : {X K : Type 0} (v : X → K) (n : ℕ) (xs : List X) → length xs ≤ n → left v n xs ≡ batches None (map v xs)
batches-unlimited v n [] le = refl
batches-unlimited v n (x ∷ xs) le =
    let many : length (map v (x ∷ xs)) ≤ n = omega (arith, length-map (x ∷ xs) v, le) in
    rw (take-all n (map v (x ∷ xs)) many, drop_of_length-le (map v (x ∷ xs)) many) (ap (λ ps. map v (x ∷ xs) ∷ ps) (pieces-empty (length xs) n))

-- the batches of keys are the keys, cut in order
module _ {K : Type 0} (n : ℕ) (positive : 0 < n) where
  joined-pieces : (most : ℕ) (keys : List K) → length keys ≤ most → joined (pieces most n keys) ≡ keys
  joined-pieces zero [] le = refl
  joined-pieces zero (k ∷ keys) le = absurd (omega arith)
  joined-pieces (suc most) [] le = refl
  joined-pieces (suc most) (k ∷ keys) le =
      let falls = length-drop n (k ∷ keys) in
      ap (λ ks. take n (k ∷ keys) ++ ks) (joined-pieces most (drop n (k ∷ keys)) (omega (arith, falls, le, positive))) ∙ take-append-drop n (k ∷ keys)

  full-before : (p : List K) (ps : List (List K)) → length p ≡ n → AreFull (Some n) ps → AreFull (Some n) (p ∷ ps)
  full-before p [] e full = (omega (arith, e, positive), omega (arith, e))
  full-before p (q ∷ ps) e full = (e, full)

  full-last : (p : List K) (ps : List (List K)) → ps ≡ [] → 0 < length p → length p ≤ n → AreFull (Some n) (p ∷ ps)
  full-last p [] e some le = (some, le)
  full-last p (q ∷ ps) e some le = absurd (cc e)

  full-pieces : (most : ℕ) (keys : List K) → length keys ≤ most → AreFull (Some n) (pieces most n keys)
  full-pieces zero keys le = tt
  full-pieces (suc most) [] le = tt
  full-pieces (suc most) (k ∷ keys) le =
      let falls = length-drop n (k ∷ keys) in
      let taken = length-take n (k ∷ keys) in
      elim (cases_lt n (length (k ∷ keys))) [
        | inl more ↦ full-before (take n (k ∷ keys)) (pieces most n (drop n (k ∷ keys))) (omega (arith, taken, more)) (full-pieces most (drop n (k ∷ keys)) (omega (arith, falls, le, positive)))
        | inr fits ↦
            full-last (take n (k ∷ keys)) (pieces most n (drop n (k ∷ keys))) (ap (pieces most n) (drop_of_length-le (k ∷ keys) fits) ∙ pieces-empty most n) (omega (arith, taken, positive)) (omega (arith, taken))
      ]

pub are-batches : {K : Type 0} (limit : Option ℕ) (keys : List K) → ((n : ℕ) → limit ≡ Some n → 0 < n) → AreBatches limit keys (batches limit keys)
are-batches None [] positive = record { in_order = refl; full = tt }
are-batches (Some n) [] positive = record { in_order = refl; full = tt }
are-batches None (k ∷ keys) positive = record { in_order = append-nil (k ∷ keys); full = omega arith }
are-batches (Some n) (k ∷ keys) positive =
    record { in_order = joined-pieces n (positive n refl) (length (k ∷ keys)) (k ∷ keys) (le_refl _); full = full-pieces n (positive n refl) (length (k ∷ keys)) (k ∷ keys) (le_refl _) }

pub keys-of-orders : (identity loader : ℕ) (cut : List (List KeyOf)) → map (λ (o : CutOf). o.keys) (map (cut_of identity loader) cut) ≡ cut
keys-of-orders identity loader [] = refl
keys-of-orders identity loader (p ∷ ps) = ap (λ qs. p ∷ qs) (keys-of-orders identity loader ps)

-- Keys that fit into one piece are one.
pub all-fit : {X K : Type 0} (v : X → K) (n : ℕ) → 0 < n → (keys : List X) → 0 < length keys → length keys ≤ n → left v n keys ≡ map v keys ∷ []
all-fit v n positive keys some le = left-step v n positive keys some ∙ rw (take-all n keys le, drop_of_length-le keys le) refl
