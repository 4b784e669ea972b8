-- Words of bits as sets of numbers.
use Rattle.std.proofs.Common.{◌≡◌, ◌≢◌, ℕ, zero, suc, ◌+◌, ◌*◌, ◌/◌, ◌%◌, ◌^◌, ◌<◌, min, max, Bool, true, false, ◌||◌, ◌==◌, List, [], length, get_or, set, replicate, eqb, ◌⊎◌, inl, inr, refl, sym, ap, ◌∙◌, arith, w64, eq-eqb, eqb-true, get_or-set_same, get_or-set_other}
use Rattle.std.specs.Prelude.{bit_and, bit_or}
use Rattle.std.specs.Int.{bit_at, trailing_zeros}
use Rattle.std.proofs.lemmas.Bool.{cases_eq, cases_lt, or_right}
use Rattle.std.proofs.lemmas.Bool.Decides.{eqb_tells}
use Rattle.std.proofs.lemmas.List.{get_or_past}
use Rattle.std.proofs.lemmas.Nat.{and_le_l}
use Rattle.std.proofs.lemmas.Nat.Bits.{bit_at_or, bit_at_and, bit_at-zero, bit_at-lt, shr_and_one, bit_at_set_same, bit_at_set_other, bit_at-trailing_zeros}
use Rattle.merging_pairs.specs.Sets.{has, Common}

pub has-test : (words : List ℕ) (i : ℕ) → eqb (bit_and (get_or words (i / 64) 0 / 2 ^ (i % 64)) 1) 1 ≡ has words i
unfolding has
has-test words i = rw shr_and_one refl

zeros : (n j : ℕ) → ◌≡◌ {A = ℕ} (get_or (replicate n 0) j 0) 0
zeros zero j = refl
zeros (suc n) zero = refl
zeros (suc n) (suc j) = zeros n j

pub has-none : (i : ℕ) → has (replicate 16 0) i ≡ false
unfolding has
has-none i = ap (λ w. bit_at w (i % 64) == 1) (zeros 16 (i / 64)) ∙ ap (λ b. b == 1) (bit_at-zero (i % 64))

apart-test : (i j : ℕ) → i ≢ j → (i == j) ≡ false
apart-test i j ne = elim (eqb_tells i j) [ inl same ↦ absurd (ne (same.1)) | inr other ↦ other.0 ]

pub or-false : (x y : Bool) → y ≡ false → x ≡ (x || y)
or-false true y e = refl
or-false false y e = sym e

with_bit : List ℕ → ℕ → List ℕ
with_bit words f = set words (f / 64) (bit_or (get_or words (f / 64) 0) (1 * 2 ^ (f % 64) % 2 ^ 64))

has-insert_same : (words : List ℕ) (f : ℕ) → length words ≡ 16 → f < 1024 → has (with_bit words f) f ≡ true
unfolding has with_bit
has-insert_same words f len small =
    let k : f / 64 < length words = omega arith in
    ap (λ w. bit_at w (f % 64) == 1) (get_or-set_same words (f / 64) (bit_or (get_or words (f / 64) 0) (1 * 2 ^ (f % 64) % 2 ^ 64)) 0 k) ∙ ap (λ b. b == 1) (bit_at_set_same w64 (get_or words (f / 64) 0) (f % 64) (omega arith))

has-insert_bit : (words : List ℕ) (f i : ℕ) → length words ≡ 16 → f < 1024 → i / 64 ≡ f / 64 → i % 64 ≢ f % 64 → has (with_bit words f) i ≡ has words i
unfolding has with_bit
has-insert_bit words f i len small same ne =
    let k : f / 64 < length words = omega arith in
    rw same (ap (λ w. bit_at w (i % 64) == 1) (get_or-set_same words (f / 64) (bit_or (get_or words (f / 64) 0) (1 * 2 ^ (f % 64) % 2 ^ 64)) 0 k) ∙ ap (λ b. b == 1) (bit_at_set_other w64 (get_or words (f / 64) 0) (f % 64) (omega arith) (i % 64) ne))

has-insert_word : (words : List ℕ) (f i : ℕ) → i / 64 ≢ f / 64 → has (with_bit words f) i ≡ has words i
unfolding has with_bit
has-insert_word words f i ne = ap (λ w. bit_at w (i % 64) == 1) (get_or-set_other words (f / 64) (i / 64) (bit_or (get_or words (f / 64) 0) (1 * 2 ^ (f % 64) % 2 ^ 64)) 0 ne)

pub has-insert : (words : List ℕ) (f i : ℕ) → length words ≡ 16 → f < 1024 → has (set words (f / 64) (bit_or (get_or words (f / 64) 0) (1 * 2 ^ (f % 64) % 2 ^ 64))) i ≡ (has words i || (i == f))
unfolding with_bit
has-insert words f i len small = word (cases_eq (i / 64) (f / 64))
  where
    bit : i / 64 ≡ f / 64 → (i % 64 ≡ f % 64) ⊎ (i % 64 ≢ f % 64) → has (with_bit words f) i ≡ (has words i || (i == f))
    bit same (inl e) =
        let here : i ≡ f = omega arith in
        rw here (has-insert_same words f len small ∙ sym (or_right (has words f) (f == f) (eq-eqb f f refl)))
    bit same (inr ne) =
        let other : i ≢ f = λ e. ne (ap (λ n. n % 64) e) in
        has-insert_bit words f i len small same ne ∙ or-false (has words i) (i == f) (apart-test i f other)

    word : (i / 64 ≡ f / 64) ⊎ (i / 64 ≢ f / 64) → has (with_bit words f) i ≡ (has words i || (i == f))
    word (inl same) = bit same (cases_eq (i % 64) (f % 64))
    word (inr ne) =
        let other : i ≢ f = λ e. ne (ap (λ n. n / 64) e) in
        has-insert_word words f i ne ∙ or-false (has words i) (i == f) (apart-test i f other)

-- ---- two rows together

or-bit : (m n : ℕ) → m < 2 → n < 2 → (max m n == 1) ≡ ((m == 1) || (n == 1))
or-bit zero zero a b = refl
or-bit zero (suc zero) a b = refl
or-bit (suc zero) zero a b = refl
or-bit (suc zero) (suc zero) a b = refl
or-bit zero (suc (suc n)) a b = absurd (omega arith)
or-bit (suc zero) (suc (suc n)) a b = absurd (omega arith)
or-bit (suc (suc m)) n a b = absurd (omega arith)

pub has-or : (old new other : List ℕ) → ((j : ℕ) → get_or new j 0 ≡ bit_or (get_or old j 0) (get_or other j 0)) → (i : ℕ) → has new i ≡ (has old i || has other i)
unfolding has
has-or old new other each i =
    let a = get_or old (i / 64) 0 in
    let b = get_or other (i / 64) 0 in
    ap (λ w. bit_at w (i % 64) == 1) (each (i / 64)) ∙ ap (λ v. v == 1) (bit_at_or (get_or old (i / 64) 0) (get_or other (i / 64) 0) (i % 64)) ∙ or-bit (bit_at (get_or old (i / 64) 0) (i % 64)) (bit_at (get_or other (i / 64) 0) (i % 64)) (bit_at-lt (get_or old (i / 64) 0) (i % 64)) (bit_at-lt (get_or other (i / 64) 0) (i % 64))

pub each-word : (old new other : List ℕ) → length old ≡ 16 → length new ≡ 16 → length other ≡ 16
    → ((j : ℕ) → j < 16 → get_or new j 0 ≡ bit_or (get_or old j 0) (get_or other j 0)) → (j : ℕ) → get_or new j 0 ≡ bit_or (get_or old j 0) (get_or other j 0)
each-word old new other lo ln lt within j =
    elim (cases_lt j 16) [
      | inl inside ↦ within j inside
      | inr past ↦ rw (get_or_past new j 0 (omega arith), get_or_past old j 0 (omega arith), get_or_past other j 0 (omega arith)) refl
    ]

has-bit : (words : List ℕ) (k b : ℕ) → b < 64 → bit_at (get_or words k 0) b ≡ 1 → has words (64 * k + b) ≡ true
unfolding has
has-bit words k b small e =
    let word : (64 * k + b) / 64 ≡ k = omega arith in
    let bit : (64 * k + b) % 64 ≡ b = omega arith in
    rw (word, bit) (ap (λ v. v == 1) e)

pub met-at : (a b : List ℕ) (k : ℕ) → get_or a k 0 < 2 ^ 64 → bit_and (get_or a k 0) (get_or b k 0) ≢ 0 → Common a b
met-at a b k fits ne =
    let both : ℕ = bit_and (get_or a k 0) (get_or b k 0) in
    let found = bit_at-trailing_zeros w64 (bit_and (get_or a k 0) (get_or b k 0)) (omega arith) (omega (arith, and_le_l (get_or a k 0) (get_or b k 0))) in
    let t : ℕ = trailing_zeros w64 (bit_and (get_or a k 0) (get_or b k 0)) in
    let small : trailing_zeros w64 (bit_and (get_or a k 0) (get_or b k 0)) < 64 = found.0 in
    let parts : min (bit_at (get_or a k 0) t) (bit_at (get_or b k 0) t) ≡ 1 = sym (bit_at_and (get_or a k 0) (get_or b k 0) t) ∙ found.1 in
    let la = bit_at-lt (get_or a k 0) t in
    let lb = bit_at-lt (get_or b k 0) t in
    record { place = 64 * k + t; first = has-bit a k t small (omega (arith, parts, la, lb)); second = has-bit b k t small (omega (arith, parts, la, lb)) }

bit-of : (words : List ℕ) (i : ℕ) → has words i ≡ true → bit_at (get_or words (i / 64) 0) (i % 64) ≡ 1
unfolding has
bit-of words i e = eqb-true (bit_at (get_or words (i / 64) 0) (i % 64)) 1 e

pub none-met : (a b : List ℕ) → length a ≡ 16 → length b ≡ 16 → ((j : ℕ) → j < 16 → bit_and (get_or a j 0) (get_or b j 0) ≡ 0) → Common a b → ⊥
none-met a b la lb none m =
    let i = m.place in
    let p = bit-of a i m.first in
    let q = bit-of b i m.second in
    let both = bit_at_and (get_or a (i / 64) 0) (get_or b (i / 64) 0) (i % 64) in
    elim (cases_lt (i / 64) 16) [
      | inl inside ↦ let z : bit_at (bit_and (get_or a (i / 64) 0) (get_or b (i / 64) 0)) (i % 64) ≡ 0 = ap (λ w. bit_at w (i % 64)) (none (i / 64) inside) ∙ bit_at-zero (i % 64) in omega (arith, p, q, both, z)
      | inr past ↦ let z : bit_at (get_or a (i / 64) 0) (i % 64) ≡ 0 = ap (λ w. bit_at w (i % 64)) (get_or_past a (i / 64) 0 (omega arith)) ∙ bit_at-zero (i % 64) in omega (arith, p, z)
    ]

pub has-empty : (i : ℕ) → has [] i ≡ false
unfolding has
has-empty i = ap (λ b. b == 1) (bit_at-zero (i % 64))
