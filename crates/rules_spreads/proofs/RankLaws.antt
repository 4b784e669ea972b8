-- Fragments that are above all that they spread.
use Rattle.std.proofs.Common.{◌≡◌, sym, subst, ℕ, zero, suc, ◌+◌, ◌<◌, ◌≤◌, ◌⊎◌, inl, inr, Bool, true, false, List, [], ◌∷◌, length, refl, arith}
use Rattle.std.specs.Prelude.{◌==◌, nat_le, nat_lt}
use Rattle.std.specs.List.{list_all, range_with_len}
use Rattle.std.proofs.lemmas.Bool.{and_parts, or_cases, both_ways}
use Rattle.rules_parts.specs.declared.part.Owner.TheVariants as owner
use Rattle.rules_spreads.specs.Graphs.{GraphOf, row, row_at}
use Rattle.rules_spreads.specs.Reach.{is_among, is_cyclic, Reaches, start, along}
use Rattle.rules_spreads.specs.Ranks.{rank_of, are_at_most, are_under, IsOrdered}
use Rattle.rules_spreads.proofs.ReachLaws.{through_sound}

all-at : (p : ℕ → Bool) (xs : List ℕ) (k : ℕ) → list_all p xs ≡ true → is_among k xs ≡ true → p k ≡ true
all-at p [] k h m = absurd (both_ways false refl m)
all-at p (x ∷ xs) k h m = let q = and_parts (p x) (list_all p xs) h in go (or_cases (x == k) (is_among k xs) m) q.0 (all-at p xs k q.1)
  where
    go : ((x == k) ≡ true) ⊎ (is_among k xs ≡ true) → p x ≡ true → (is_among k xs ≡ true → p k ≡ true) → p k ≡ true
    go (inl e) here rest = let same : x ≡ k = grind arith in let P : ℕ → Type 0 = λ n. p n ≡ true in subst P same here
    go (inr e) here rest = rest e

-- whatever is reached from there has a lower rank
lower : (ranks : List ℕ) (g : GraphOf) (x j : ℕ) → IsOrdered ranks g → are_under ranks (rank_of ranks x) (row g (owner.Fragment x)) ≡ true → Reaches g (owner.Fragment x) j → rank_of ranks j < rank_of ranks x
lower ranks g x j ordered under (start h) = let e : nat_lt (rank_of ranks j) (rank_of ranks x) ≡ true = all-at (λ y. nat_lt (rank_of ranks y) (rank_of ranks x)) (row g (owner.Fragment x)) j under h in grind arith
lower ranks g x j ordered under (along {k = m} r h) =
    let e : nat_le (rank_of ranks j) (rank_of ranks m) ≡ true = all-at (λ y. nat_le (rank_of ranks y) (rank_of ranks m)) (row g (owner.Fragment m)) j (ordered m) h in
    below (rank_of ranks j) (rank_of ranks m) (rank_of ranks x) e (lower ranks g x m ordered under r)
  where
    below : (a b c : ℕ) → nat_le a b ≡ true → b < c → a < c
    below a b c e lt = grind arith

pub no-cycle : (ranks : List ℕ) (g : GraphOf) (x : ℕ) → IsOrdered ranks g → are_under ranks (rank_of ranks x) (row g (owner.Fragment x)) ≡ true → is_cyclic g x ≡ false
no-cycle ranks g x ordered under = go (is_cyclic g x) refl
  where
    go : (b : Bool) → is_cyclic g x ≡ b → is_cyclic g x ≡ false
    go false e = e
    go true e = let lt = lower ranks g x x ordered under (through_sound (length g.fragments) g (owner.Fragment x) x e) in absurd (omega (arith, lt))

-- ranks that are all alike
pub alike : (g : GraphOf) → IsOrdered [] g
alike g x = go (row g (owner.Fragment x))
  where
    go : (ys : List ℕ) → are_at_most [] 0 ys ≡ true
    go [] = refl
    go (y ∷ ys) = go ys

range-all : (p : ℕ → Bool) (a n k j : ℕ) → list_all p (range_with_len a n) ≡ true → k < n → a + k ≡ j → p j ≡ true
range-all p a zero k j h lt e = absurd (omega (arith, lt))
range-all p a (suc n) zero j h lt e = let P : ℕ → Type 0 = λ m. p m ≡ true in let same : a ≡ j = omega (arith, e) in subst P same (and_parts (p a) (list_all p (range_with_len (a + 1) n)) h).0
range-all p a (suc n) (suc k) j h lt e = range-all p (a + 1) n k j (and_parts (p a) (list_all p (range_with_len (a + 1) n)) h).1 (omega (arith, lt)) (omega (arith, e))

no-row : (rows : List (List ℕ)) (x : ℕ) → length rows ≤ x → row_at rows x ≡ []
no-row [] x h = refl
no-row (row ∷ rows) zero h = absurd (omega (arith, h))
no-row (row ∷ rows) (suc x) h = no-row rows x (omega (arith, h))

-- ranks are ordered where they are so for each fragment that there is
pub each-ordered : (ranks : List ℕ) (g : GraphOf) → list_all (λ x. are_at_most ranks (rank_of ranks x) (row g (owner.Fragment x))) (range_with_len 0 (length g.fragments)) ≡ true → IsOrdered ranks g
each-ordered ranks g h x = go (nat_lt x (length g.fragments)) refl
  where
    go : (b : Bool) → nat_lt x (length g.fragments) ≡ b → are_at_most ranks (rank_of ranks x) (row g (owner.Fragment x)) ≡ true
    go true e = let lt : x < length g.fragments = grind arith in range-all (λ y. are_at_most ranks (rank_of ranks y) (row g (owner.Fragment y))) 0 (length g.fragments) x x h lt (omega arith)
    go false e =
        let ge : length g.fragments ≤ x = grind arith in
        let P : List ℕ → Type 0 = λ ys. are_at_most ranks (rank_of ranks x) ys ≡ true in
        subst P (sym (no-row g.fragments x ge)) refl
