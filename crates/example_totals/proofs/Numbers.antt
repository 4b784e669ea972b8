-- The number that a text is, and what is parsed of it.
use Rattle.std.proofs.Common.{◌≡◌, ◌<◌, ◌^◌, ◌&&◌, ℕ, Bool, true, false, List, length, Some, refl, ap, arith, Result, Ok, Err, nat_lt}
use Rattle.std.specs.Result.{result_ok}
use Rattle.std.specs.Str.{all_ascii_digits}
use Rattle.std.specs.Str.Parse.{IsNumeral, digits_value, without_leading_plus, ParsesUnsigned}
use Rattle.std.proofs.lemmas.Str.Parse.{IsNumeralModel, numerals_by_value, tells_all_ascii_digits}
use Rattle.std.proofs.lemmas.Bool.Decides.{nat_tests}
use Rattle.example_totals.specs.Totals.{is_number, number_of}

own : IsNumeralModel (λ ds. all_ascii_digits ds ≡ true) (digits_value 10)
own = numerals_by_value _ tells_all_ascii_digits

three : (a b c : Bool) → a ≡ true → b ≡ true → c ≡ true → (a && b && c) ≡ true
three a b c e f g = rw (e, f, g) refl

all-three : (a b c : Bool) → (a && b && c) ≡ true → (a ≡ true) × (b ≡ true) × (c ≡ true)
all-three true true true h = (refl, refl, refl)
all-three true true false h = absurd (cc h)
all-three true false c h = absurd (cc h)
all-three false b c h = absurd (cc h)

is-number : (ds : List ℕ) → IsNumeral 10 ds → digits_value 10 ds < 2 ^ 32 → is_number ds ≡ true
is-number ds numeral small =
    three (nat_lt 0 (length ds)) (all_ascii_digits ds) (nat_lt (digits_value 10 ds) (2 ^ 32)) (below-true 0 (length ds) numeral.0) (own.from ds numeral.1) (below-true (digits_value 10 ds) (2 ^ 32) small)
  where
    below-true : (a b : ℕ) → a < b → nat_lt a b ≡ true
    below-true a b h = grind (arith, nat_tests)

number-is : (ds : List ℕ) → is_number ds ≡ true → IsNumeral 10 ds × (digits_value 10 ds < 2 ^ 32)
number-is ds h =
    let parts = all-three (nat_lt 0 (length ds)) (all_ascii_digits ds) (nat_lt (digits_value 10 ds) (2 ^ 32)) h in
    ((true-below 0 (length ds) parts.0, own.to ds parts.1), true-below (digits_value 10 ds) (2 ^ 32) parts.2)
  where
    true-below : (a b : ℕ) → nat_lt a b ≡ true → a < b
    true-below a b h = grind (arith, nat_tests)

not-true : (b : Bool) → (b ≡ true → ⊥) → b ≡ false
not-true true h = absurd (h refl)
not-true false h = refl

-- a text that was parsed is the number that it is
pub parsed : {E : Type 0} (text : List ℕ) (r : Result ℕ E) → ParsesUnsigned 32 10 text r → result_ok r ≡ number_of text
parsed text (Ok n) h =
    let ds = without_leading_plus text in
    let e : is_number ds ≡ true = is-number ds h.0.0 h.0.1 in
    rw e (ap (λ x. Some x) h.1)
parsed text (Err e) h =
    let ds = without_leading_plus text in
    let none : is_number ds ≡ false = not-true (is_number ds) (λ t. h (number-is ds t)) in
    rw none refl
