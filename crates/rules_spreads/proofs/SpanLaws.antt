-- Sets of operations of a span, as what they have.
use Rattle.std.proofs.Common.{◌≡◌, ◌∙◌, sym, ap, refl, ℕ, zero, suc, ◌*◌, ◌-◌, ◌%◌, ◌^◌, ◌<◌, max, true, false, not, ◌||◌, eqb, bit_or, bit_and, w64, arith, ⊎_elim}
use Rattle.std.specs.Int.{bit_at, bit_not}
use Rattle.std.specs.Prelude.{◌&&◌}
use Rattle.std.proofs.lemmas.Bool.{false≢true, eqb-true, eqb-false, eq-eqb, ne_eqb, cases_eq}
use Rattle.std.proofs.lemmas.Nat.{le_or_r}
use Rattle.std.proofs.lemmas.Nat.Bits.{bit_at-zero, bit_at_or, bit_at-lt, bit_at_set_same, bit_at_set_other, same_from_bits, bit_at_clear_same, bit_at_clear_other, bit_at_ones}
use Rattle.rules_spreads.specs.declared.operation_set.OperationSet.{OperationSet}
use Rattle.rules_spreads.specs.OperationSpans.{has, is_within, both, no_operations}

pub has-none : (i : ℕ) → has no_operations i ≡ false
has-none i = ap (λ n. eqb n 1) (bit_at-zero i)

pub has-both : (s t : OperationSet) (i : ℕ) → has (both s t) i ≡ (has s i || has t i)
has-both s t i = ap (λ n. eqb n 1) (bit_at_or s.bits t.bits i) ∙ by (bit_at s.bits i) (bit_at t.bits i) (bit_at-lt s.bits i) (bit_at-lt t.bits i) where
  by : (m n : ℕ) → m < 2 → n < 2 → eqb (max m n) 1 ≡ (eqb m 1 || eqb n 1)
  by zero zero m n = refl
  by zero (suc zero) m n = refl
  by (suc zero) zero m n = refl
  by (suc zero) (suc zero) m n = refl
  by (suc (suc m)) k lt n = absurd (omega arith)
  by zero (suc (suc k)) m lt = absurd (omega arith)
  by (suc zero) (suc (suc k)) m lt = absurd (omega arith)

-- with one more, set by its bit
pub has-with : (s t : OperationSet) (k i : ℕ) → k < 64 → t.bits ≡ bit_or s.bits (1 * 2 ^ k % 2 ^ 64) → has t i ≡ (eqb i k || has s i)
has-with s t k i within is = ⊎_elim same other (cases_eq i k) where
  same : i ≡ k → has t i ≡ (eqb i k || has s i)
  same e = ap (λ n. eqb (bit_at n i) 1) is ∙ (ap (λ n. eqb (bit_at (bit_or s.bits (1 * 2 ^ k % 2 ^ 64)) n) 1) e ∙ (ap (λ n. eqb n 1) (bit_at_set_same w64 s.bits k within) ∙ sym (ap (λ b. b || has s i) (eq-eqb i k e))))

  other : (i ≡ k → ⊥) → has t i ≡ (eqb i k || has s i)
  other n = ap (λ n. eqb (bit_at n i) 1) is ∙ (ap (λ n. eqb n 1) (bit_at_set_other w64 s.bits k within i n) ∙ sym (ap (λ b. b || has s i) (ne_eqb i k n)))

-- a set that another is within has all that the other has
pub within-has : (s t : OperationSet) (i : ℕ) → is_within s t ≡ true → has s i ≡ true → has t i ≡ true
within-has s t i within h =
    let same : has (both s t) i ≡ has t i = ap (λ n. eqb (bit_at n i) 1) (eqb-true (bit_or s.bits t.bits) t.bits within) in
    sym same ∙ (has-both s t i ∙ ap (λ b. b || has t i) h)

pub within-from : (s t : OperationSet) → ((i : ℕ) → has s i ≡ true → has t i ≡ true) → is_within s t ≡ true
within-from s t all = eq-eqb (bit_or s.bits t.bits) t.bits (same_from_bits (bit_or s.bits t.bits) t.bits (λ i. bit_at_or s.bits t.bits i ∙ by (bit_at s.bits i) (bit_at t.bits i) (bit_at-lt s.bits i) (bit_at-lt t.bits i) (all i))) where
  by : (m n : ℕ) → m < 2 → n < 2 → (eqb m 1 ≡ true → eqb n 1 ≡ true) → max m n ≡ n
  by zero zero m lt there = refl
  by zero (suc zero) m lt there = refl
  by zero (suc (suc n)) m lt there = absurd (omega arith)
  by (suc zero) zero m lt there = absurd (false≢true (there refl))
  by (suc zero) (suc zero) m lt there = refl
  by (suc zero) (suc (suc n)) m lt there = absurd (omega arith)
  by (suc (suc m)) n lt k there = absurd (omega arith)

-- both sets together are more than one that isn't within the other
pub not-within-more : (s t : OperationSet) → is_within s t ≡ false → t.bits < (both s t).bits
not-within-more s t not = let more = le_or_r s.bits t.bits in let differs = eqb-false (bit_or s.bits t.bits) t.bits not in ⊎_elim (λ e. absurd (differs e)) (λ n. omega (arith, more, n)) (cases_eq (bit_or s.bits t.bits) t.bits)

-- without one, cleared by its bit
pub has-without : (s t : OperationSet) (k i : ℕ) → k < 64 → i < 64 → t.bits ≡ bit_and s.bits (bit_not w64 (1 * 2 ^ k % 2 ^ 64)) → has t i ≡ (not (eqb i k) && has s i)
has-without s t k i within lt is = ⊎_elim same other (cases_eq i k) where
  same : i ≡ k → has t i ≡ (not (eqb i k) && has s i)
  same e = ap (λ n. eqb (bit_at n i) 1) is ∙ (ap (λ n. eqb (bit_at (bit_and s.bits (bit_not w64 (1 * 2 ^ k % 2 ^ 64))) n) 1) e ∙ (ap (λ n. eqb n 1) (bit_at_clear_same w64 s.bits k within) ∙ sym (ap (λ b. not b && has s i) (eq-eqb i k e))))

  other : (i ≡ k → ⊥) → has t i ≡ (not (eqb i k) && has s i)
  other n = ap (λ n. eqb (bit_at n i) 1) is ∙ (ap (λ n. eqb n 1) (bit_at_clear_other w64 s.bits k within i lt n) ∙ sym (ap (λ b. not b && has s i) (ne_eqb i k n)))

pub has-all : (t : OperationSet) (i : ℕ) → i < 64 → t.bits ≡ 2 ^ 64 - 1 → has t i ≡ true
has-all t i lt is = ap (λ n. eqb (bit_at n i) 1) is ∙ ap (λ n. eqb n 1) (bit_at_ones 64 i lt)
