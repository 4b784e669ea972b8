-- Lemmas on how many numbers below one pass a test.
use Rattle.std.proofs.Common.{◌≡◌, subst, refl, ℕ, zero, suc, ◌+◌, ◌<◌, ◌≤◌, ◌==◌, Bool, true, false, arith, if◌then◌else◌}
use Rattle.std.proofs.lemmas.Bool.{both_ways}

abbrev pub tally : ℕ → (ℕ → Bool) → ℕ
tally zero p = 0
tally (suc n) p = (if p n then 1 else 0) + tally n p

pub tally-more : (n : ℕ) (p q : ℕ → Bool) → ((k : ℕ) → p k ≡ true → q k ≡ true) → tally n p ≤ tally n q
tally-more zero p q h = omega arith
tally-more (suc n) p q h = go (p n) (q n) (h n) (tally-more n p q h)
  where
    go : (a b : Bool) → (a ≡ true → b ≡ true) → tally n p ≤ tally n q → (if a then 1 else 0) + tally n p ≤ (if b then 1 else 0) + tally n q
    go true true i le = omega arith
    go true false i le = absurd (both_ways false refl (i refl))
    go false true i le = omega arith
    go false false i le = omega arith

pub tally-less : (n m : ℕ) (p q : ℕ → Bool) → ((k : ℕ) → p k ≡ true → q k ≡ true) → m < n → p m ≡ false → q m ≡ true → tally n p < tally n q
tally-less zero m p q h lt out into = absurd (omega (arith, lt))
tally-less (suc n) m p q h lt out into = go (m == n) refl (λ l. tally-less n m p q h l out into)
  where
    more : tally n p ≤ tally n q
    more = tally-more n p q h

    step : (a b : Bool) → (a ≡ true → b ≡ true) → tally n p < tally n q → (if a then 1 else 0) + tally n p < (if b then 1 else 0) + tally n q
    step true true i l = omega arith
    step true false i l = absurd (both_ways false refl (i refl))
    step false true i l = omega arith
    step false false i l = omega arith

    go : (b : Bool) → (m == n) ≡ b → (m < n → tally n p < tally n q) → tally (suc n) p < tally (suc n) q
    go true e rest =
        let same : m ≡ n = grind arith in
        let P : ℕ → Type 0 = λ x. p x ≡ false in
        let Q : ℕ → Type 0 = λ x. q x ≡ true in
        let a : p n ≡ false = subst P same out in
        let b : q n ≡ true = subst Q same into in
        let le : tally n p ≤ tally n q = more in
        rw (a, b) (omega arith)
    go false e rest = let l : m < n = grind arith in step (p n) (q n) (h n) (rest l)

pub tally-most : (n : ℕ) (p : ℕ → Bool) → tally n p ≤ n
tally-most zero p = omega arith
tally-most (suc n) p = go (p n) (tally-most n p)
  where
    go : (b : Bool) → tally n p ≤ n → (if b then 1 else 0) + tally n p ≤ suc n
    go true le = omega arith
    go false le = omega arith

pub tally-out : (n m : ℕ) (p : ℕ → Bool) → m < n → p m ≡ false → tally n p < n
tally-out zero m p lt out = absurd (omega (arith, lt))
tally-out (suc n) m p lt out = go (m == n) refl (λ l. tally-out n m p l out)
  where
    most : tally n p ≤ n
    most = tally-most n p

    step : (b : Bool) → tally n p < n → (if b then 1 else 0) + tally n p < suc n
    step true l = omega arith
    step false l = omega arith

    go : (b : Bool) → (m == n) ≡ b → (m < n → tally n p < n) → tally (suc n) p < suc n
    go true e rest =
        let same : m ≡ n = grind arith in
        let P : ℕ → Type 0 = λ x. p x ≡ false in
        let a : p n ≡ false = subst P same out in
        let le : tally n p ≤ n = most in
        rw a (omega arith)
    go false e rest = let l : m < n = grind arith in step (p n) (rest l)
