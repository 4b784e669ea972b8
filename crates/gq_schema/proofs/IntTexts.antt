-- The texts of numbers.
use Rattle.std.proofs.Common.{◌≡◌, ◌∙◌, sym, ap, cond, eq-eqb, ◌≤◌, ◌^◌, ℕ, Bool, true, false, ◌&&◌, if◌then◌else◌, List, length, drop, refl, w32, Result, Ok, Err, Option, Some, None, Decides, arith}
use Rattle.std.specs.Prelude.{ℤ, pos, neg_ℤ, nat_le, nat_lt, slice_index, ◌==◌}
use Rattle.std.specs.Result.{OkIff, result_ok}
use Rattle.std.specs.Str.{all_ascii_digits}
use Rattle.std.specs.Str.Parse.{digits_value, ParsesSigned}
use Rattle.std.proofs.lemmas.Bool.Decides.{Decides-ltb, nat_tests}
use Rattle.std.proofs.lemmas.Bool.{eqb-true}
use Rattle.std.proofs.lemmas.Str.Parse.{IsNumeralModel, numerals_by_value, tells_all_ascii_digits, parse_signed_plain, parse_signed_plus, parse_signed_minus}
use Rattle.gq_schema.specs.Coercion.{int_of}

three : {L A N : Type 0} (l a n : Bool) → Decides l L → Decides a A → Decides n N → Decides ((l && a) && n) (A × L × N)
three true true n dl da dn = (λ e. (da.0 refl, dl.0 refl, dn.0 e), λ h. dn.1 h.2)
three true false n dl da dn = (λ e. absurd (let h : false ≡ true = e in cc), λ h. da.1 h.0)
three false a n dl da dn = (λ e. absurd (let h : false ≡ true = e in cc), λ h. dl.1 h.1)

from_OkIff : {T E : Type 0} {P : Type 0} (r : Result T E) (b : Bool) (x : T) → OkIff r P x → Decides b P → result_ok r ≡ (if b then Some x else None)
from_OkIff (Ok y) true x h d = let same : y ≡ x = h.1 in cc
from_OkIff (Ok y) false x h d = let yes : false ≡ true = d.1 h.0 in cc
from_OkIff (Err e) true x h d = absurd (h (d.0 refl))
from_OkIff (Err e) false x h d = refl

digits : IsNumeralModel (λ ds. all_ascii_digits ds ≡ true) (digits_value 10)
digits = numerals_by_value (λ ds. all_ascii_digits ds ≡ true) tells_all_ascii_digits

is_true : (b : Bool) → Decides b (b ≡ true)
is_true b = (λ e. e, λ e. e)

Decides-le : (a b : ℕ) → Decides (nat_le a b) (a ≤ b)
Decides-le a b = (λ e. grind (arith, nat_tests), λ h. grind (arith, nat_tests))

int_by : Bool → Bool → List ℕ → Option ℤ
int_by minus plus text =
    let ds = cond minus (drop 1 text) (drop (cond plus 1 0) text) in
    let n = digits_value 10 ds in
    if (nat_lt 0 (length ds) && all_ascii_digits ds) && cond minus (nat_le n (2 ^ 31)) (nat_lt n (2 ^ 31)) then Some (cond minus (neg_ℤ (pos n)) (pos n)) else None

by_signs : (text : List ℕ) → int_by (slice_index text 0 == 45) (slice_index text 0 == 43) text ≡ int_of text
unfolding int_by
by_signs text = refl

-- the result of `parse` for a text
pub parsed : {E : Type 0} (text : List ℕ) (r : Result ℤ E) → ParsesSigned w32 10 text r → result_ok r ≡ int_of text
unfolding int_by
parsed {E} text r h = minus (slice_index text 0 == 45) refl where
  plus : (b : Bool) → (slice_index text 0 == 45) ≡ false → (slice_index text 0 == 43) ≡ b → result_ok r ≡ int_of text
  plus true unsigned e =
      from_OkIff r _ _ (parse_signed_plus digits w32 text r h (eqb-true _ _ e)) (three (nat_lt 0 (length (drop 1 text))) (all_ascii_digits (drop 1 text)) (nat_lt (digits_value 10 (drop 1 text)) (2 ^ 31)) (Decides-ltb _ _) (is_true _) (Decides-ltb _ _))
      ∙ (sym (ap (λ m. int_by m true text) unsigned) ∙ (sym (ap (λ p. int_by (slice_index text 0 == 45) p text) e) ∙ by_signs text))
  plus false unsigned e =
      from_OkIff r _ _ (parse_signed_plain digits w32 text r h (λ same. absurd (let t = eq-eqb _ _ same in let f : false ≡ true = sym e ∙ t in cc)) (λ same. absurd (let t = eq-eqb _ _ same in let f : false ≡ true = sym unsigned ∙ t in cc))) (three (nat_lt 0 (length text)) (all_ascii_digits text) (nat_lt (digits_value 10 text) (2 ^ 31)) (Decides-ltb _ _) (is_true _) (Decides-ltb _ _))
      ∙ (sym (ap (λ m. int_by m false text) unsigned) ∙ (sym (ap (λ p. int_by (slice_index text 0 == 45) p text) e) ∙ by_signs text))

  minus : (b : Bool) → (slice_index text 0 == 45) ≡ b → result_ok r ≡ int_of text
  minus true e =
      from_OkIff r _ _ (parse_signed_minus digits w32 text r h (eqb-true _ _ e)) (three (nat_lt 0 (length (drop 1 text))) (all_ascii_digits (drop 1 text)) (nat_le (digits_value 10 (drop 1 text)) (2 ^ 31)) (Decides-ltb _ _) (is_true _) (Decides-le _ _))
      ∙ (sym (ap (λ m. int_by m (slice_index text 0 == 43) text) e) ∙ by_signs text)
  minus false e = plus (slice_index text 0 == 43) e refl
