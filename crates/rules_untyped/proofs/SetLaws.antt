-- Sets of operations of a span, by the numbers of names.
use Rattle.std.proofs.Common.{◌≡◌, ◌∙◌, ◌+◌, ◌<◌, ap, sym, refl, zero, suc, ℕ, Bool, true, false, ◌||◌, cond, eqb, List, [], ◌∷◌, Option, Some, length, get_or, map, drop, slice_get, arith, ⊎_elim}
use Rattle.std.specs.Prelude.{◌&&◌, nat_lt}
use Rattle.std.specs.List.{list_any}
use Rattle.std.proofs.lemmas.Bool.{eq-eqb, ne_eqb, cases_eq}
use Rattle.gq_parser.specs.Tree.{VariableDefinition}
use Rattle.rules_spreads.specs.declared.operation_set.OperationSet.{OperationSet}
use Rattle.rules_spreads.specs.OperationSpans.{has, set_at}
use Rattle.rules_untyped.specs.VariableUseIndex.{is_number, is_numbered}

-- the operations of a set after one was put
pub put_has : (old new : List OperationSet) (value : OperationSet) (at n m : ℕ) (b : Bool) → set_at new n ≡ cond (eqb n at) value (set_at old n) → has value m ≡ (b || has (set_at old at) m)
    → has (set_at new n) m ≡ ((eqb n at && b) || has (set_at old n) m)
put_has old new value at n m b put of_value = ap (λ (t : OperationSet). has t m) put ∙ ⊎_elim
    (λ e. rw (eq-eqb n at e, of_value) (ap (λ (k : ℕ). b || has (set_at old k) m) (sym e)))
    (λ not. rw (ne_eqb n at not) refl)
    (cases_eq n at)

-- the operations that define a name after one variable more
pub defined_more : (number : List ℕ → Option ℕ) (v : VariableDefinition) (rest : List VariableDefinition) (i m n : ℕ) (old new : Bool) (o : Option ℕ) (total : Bool)
    → number v.name ≡ o → new ≡ ((is_number n o && eqb m i) || old)
    → ((eqb m i && list_any (is_numbered number n) (v ∷ rest)) || old) ≡ total
    → ((eqb m i && list_any (is_numbered number n) rest) || new) ≡ total
defined_more number v rest i m n old new o total found more before =
    ap (λ b. (eqb m i && list_any (is_numbered number n) rest) || b) (more ∙ ap (λ p. (is_number n p && eqb m i) || old) (sym found))
    ∙ (by (eqb m i) (is_numbered number n v) (list_any (is_numbered number n) rest) ∙ before) where
      by : (a b others : Bool) → ((a && others) || ((b && a) || old)) ≡ ((a && (b || others)) || old)
      by true true true = refl
      by true true false = refl
      by true false others = refl
      by false true others = refl
      by false false others = refl

-- the operations that define a name after one operation more
pub below_step : (test : ℕ → Bool) (m i : ℕ) (new old here : Bool) → new ≡ ((eqb m i && here) || old) → here ≡ test i → old ≡ (nat_lt m i && test m) → new ≡ (nat_lt m (i + 1) && test m)
below_step test m i new old here of_new of_here of_old = of_new ∙ rw (of_here, of_old) (⊎_elim same other (cases_eq m i)) where
  same : m ≡ i → ((eqb m i && test i) || (nat_lt m i && test m)) ≡ (nat_lt m (i + 1) && test m)
  same e =
      let below : nat_lt m (i + 1) ≡ true = grind arith in
      let not : nat_lt m i ≡ false = grind arith in
      rw (below, not, eq-eqb m i e) (or-none (test i) ∙ ap test (sym e)) where
        or-none : (b : Bool) → (b || false) ≡ b
        or-none true = refl
        or-none false = refl

  other : (m ≡ i → ⊥) → ((eqb m i && test i) || (nat_lt m i && test m)) ≡ (nat_lt m (i + 1) && test m)
  other not = let alike : nat_lt m i ≡ nat_lt m (i + 1) = grind arith in rw (ne_eqb m i not) (ap (λ b. b && test m) alike)

-- the operations that use a name after one use more
pub uses_more : (hit rest h old new total : Bool) → new ≡ ((hit && h) || old) → (((hit || rest) && h) || old) ≡ total → ((rest && h) || new) ≡ total
uses_more hit rest h old new total more before = ap (λ b. (rest && h) || b) more ∙ (by hit rest h ∙ before) where
  by : (a b c : Bool) → ((b && c) || ((a && c) || old)) ≡ (((a || b) && c) || old)
  by true true true = refl
  by true true false = refl
  by true false c = refl
  by false true c = refl
  by false false c = refl

-- ---- a list that is seen through a view

pub slice_get-seen : {A B : Type 0} (view : A → B) (xs : List A) (i : ℕ) (x : A) → i < length xs → x ≡ get_or xs i x → slice_get (map view xs) i ≡ Some (view x)
slice_get-seen view [] i x lt is = absurd (omega arith)
slice_get-seen view (y ∷ ys) zero x lt is = ap (λ z. Some (view z)) (sym is)
slice_get-seen view (y ∷ ys) (suc i) x lt is = slice_get-seen view ys i x (omega arith) is

pub drop-seen : {A B : Type 0} (view : A → B) (xs : List A) (i : ℕ) (x : A) → i < length xs → x ≡ get_or xs i x → drop i (map view xs) ≡ view x ∷ drop (suc i) (map view xs)
drop-seen view [] i x lt is = absurd (omega arith)
drop-seen view (y ∷ ys) zero x lt is = ap (λ z. view z ∷ map view ys) (sym is)
drop-seen view (y ∷ ys) (suc i) x lt is = drop-seen view ys i x (omega arith) is
