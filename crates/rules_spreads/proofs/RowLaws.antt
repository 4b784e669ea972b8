-- Rows that grow spread by spread.
use Rattle.std.proofs.Common.{◌≡◌, ◌∙◌, sym, ap, ℕ, zero, suc, ◌+◌, ◌-◌, ◌<◌, ◌≤◌, Bool, true, false, cond, List, [], ◌∷◌, ◌++◌, append_assoc, length, map, fold, get_or, set, replicate, Option, Some, None, refl, arith}
use Rattle.std.specs.Prelude.{nat_lt, ◌==◌}
use Rattle.std.specs.Global.{Vec}
use Rattle.std.proofs.lemmas.Bool.{and_from}
use Rattle.rules_spreads.specs.Reach.{are_below, are_known}
use Rattle.std.specs.List.{cons_option, list_all}
use Rattle.std.proofs.lemmas.List.{append-nil, map-append}
use Rattle.std.proofs.lemmas.List.Elements.{filter_map-append}
use Rattle.rules_parts.specs.declared.part.Owner.{Owner}
use Rattle.rules_parts.specs.Parts.{SpreadPart}
use Rattle.rules_spreads.specs.Graphs.{operation_number, fragment_number, is_number, known_target, target_of, targets_of, rows_from, with_target, with_target_if, with_spread}
use Rattle.rules_spreads.specs.Rows.{row_in, rows_in}

-- ---- one row

pub rows-set : (xs : List (Vec ℕ)) (i j : ℕ) (v d : Vec ℕ) → i < length xs → v.items ≡ (get_or xs i d).items ++ j ∷ [] → rows_in (set xs i v) ≡ with_target (rows_in xs) i j
rows-set [] i j v d h e = absurd (omega arith)
rows-set (x ∷ xs) zero j v d h e = ap (λ row. row ∷ rows_in xs) e
rows-set (x ∷ xs) (suc i) j v d h e = ap (λ rows. x.items ∷ rows) (rows-set xs i j v d (omega arith) e)

pub rows-beyond : (xs : List (Vec ℕ)) (i j : ℕ) → length xs ≤ i → rows_in xs ≡ with_target (rows_in xs) i j
rows-beyond [] i j h = refl
rows-beyond (x ∷ xs) zero j h = absurd (omega arith)
rows-beyond (x ∷ xs) (suc i) j h = ap (λ rows. x.items ∷ rows) (rows-beyond xs i j (omega arith))

-- one more row that is empty
pub rows-added : (xs : List (Vec ℕ)) (v : Vec ℕ) (n count : ℕ) (all : List (List ℕ)) → v.items ≡ [] → n < count → rows_in xs ++ replicate (count - n) [] ≡ all → rows_in (xs ++ v ∷ []) ++ replicate (count - (n + 1)) [] ≡ all
rows-added xs v n count all empty lt h =
    let next : count - n ≡ suc (count - (n + 1)) = omega arith in
    ap (λ rows. rows ++ replicate (count - (n + 1)) []) (map-append row_in xs (v ∷ []))
    ∙ (append_assoc (rows_in xs) (v.items ∷ []) (replicate (count - (n + 1)) [])
    ∙ (ap (λ (row : List ℕ). rows_in xs ++ row ∷ replicate (count - (n + 1)) []) empty
    ∙ (ap (λ (m : ℕ). rows_in xs ++ replicate {A = List ℕ} m []) (sym next) ∙ h)))

-- ---- all rows

pub rows-none : (count : ℕ) (number : Owner → Option ℕ) (i many : ℕ) → rows_from count number [] i many ≡ replicate many []
rows-none count number i zero = refl
rows-none count number i (suc many) = ap (λ rows. [] ∷ rows) (rows-none count number (i + 1) many)

-- a spread that gives nothing to a row
row-same : (count : ℕ) (number : Owner → Option ℕ) (xs : List SpreadPart) (s : SpreadPart) (i : ℕ) → target_of count number i s ≡ None → targets_of count number (xs ++ s ∷ []) i ≡ targets_of count number xs i
row-same count number xs s i e = filter_map-append (target_of count number i) xs (s ∷ []) ∙ (ap (λ o. targets_of count number xs i ++ cons_option o []) e ∙ append-nil (targets_of count number xs i))

-- one that gives a target
row-more : (count : ℕ) (number : Owner → Option ℕ) (xs : List SpreadPart) (s : SpreadPart) (i j : ℕ) → target_of count number i s ≡ Some j → targets_of count number (xs ++ s ∷ []) i ≡ targets_of count number xs i ++ j ∷ []
row-more count number xs s i j e = filter_map-append (target_of count number i) xs (s ∷ []) ∙ ap (λ o. targets_of count number xs i ++ cons_option o []) e

rows-same : (count : ℕ) (number : Owner → Option ℕ) (xs : List SpreadPart) (s : SpreadPart) (i many : ℕ) → ((k : ℕ) → i ≤ k → target_of count number k s ≡ None) → rows_from count number (xs ++ s ∷ []) i many ≡ rows_from count number xs i many
rows-same count number xs s i zero none = refl
rows-same count number xs s i (suc many) none =
    ap (λ row. row ∷ rows_from count number (xs ++ s ∷ []) (i + 1) many) (row-same count number xs s i (none i (omega arith)))
    ∙ ap (λ rows. targets_of count number xs i ∷ rows) (rows-same count number xs s (i + 1) many (λ k h. none k (omega arith)))

-- others are given nothing
other : (i k : ℕ) (o : Option ℕ) → (i ≡ k → ⊥) → cond (i == k) o None ≡ None
other i k o n = go (i == k) (λ e. absurd (n (grind arith)))
  where
    go : (b : Bool) → (b ≡ true → cond b o None ≡ None) → cond b o None ≡ None
    go true h = h refl
    go false h = refl

own : (i k : ℕ) (o : Option ℕ) → i ≡ k → cond (i == k) o None ≡ o
own i k o e = grind arith

rows-hit : (count : ℕ) (number : Owner → Option ℕ) (xs : List SpreadPart) (s : SpreadPart) (i many d k j : ℕ) → number s.owner ≡ Some k → known_target count s.target ≡ Some j → i + d ≡ k
    → rows_from count number (xs ++ s ∷ []) i many ≡ with_target (rows_from count number xs i many) d j
rows-hit count number xs s i zero d k j n t at = refl
rows-hit count number xs s i (suc many) zero k j n t at =
    ap (λ row. row ∷ rows_from count number (xs ++ s ∷ []) (i + 1) many) (row-more count number xs s i j (ap (λ o. cond (is_number i o) (known_target count s.target) None) n ∙ (own i k (known_target count s.target) (omega arith) ∙ t)))
    ∙ ap (λ rows. (targets_of count number xs i ++ j ∷ []) ∷ rows) (rows-same count number xs s (i + 1) many (λ m h. ap (λ o. cond (is_number m o) (known_target count s.target) None) n ∙ other m k (known_target count s.target) (λ e. omega arith)))
rows-hit count number xs s i (suc many) (suc d) k j n t at =
    ap (λ row. row ∷ rows_from count number (xs ++ s ∷ []) (i + 1) many) (row-same count number xs s i (ap (λ o. cond (is_number i o) (known_target count s.target) None) n ∙ other i k (known_target count s.target) (λ e. omega arith)))
    ∙ ap (λ rows. targets_of count number xs i ∷ rows) (rows-hit count number xs s (i + 1) many d k j n t (omega arith))

nothing : (b : Bool) (o : Option ℕ) → o ≡ None → cond b o None ≡ None
nothing true o e = e
nothing false o e = refl

rows-more : (count : ℕ) (number : Owner → Option ℕ) (xs : List SpreadPart) (s : SpreadPart) (many : ℕ) → rows_from count number (xs ++ s ∷ []) 0 many ≡ with_spread count number (rows_from count number xs 0 many) s
rows-more count number xs s many = go (number s.owner) refl (known_target count s.target) refl
  where
    go : (n : Option ℕ) → number s.owner ≡ n → (t : Option ℕ) → known_target count s.target ≡ t → rows_from count number (xs ++ s ∷ []) 0 many ≡ with_target_if (rows_from count number xs 0 many) n t
    go None n t e = rows-same count number xs s 0 many (λ k h. ap (λ o. cond (is_number k o) (known_target count s.target) None) n)
    go (Some k) n None e = rows-same count number xs s 0 many (λ m h. nothing (is_number m (number s.owner)) (known_target count s.target) e)
    go (Some k) n (Some j) e = rows-hit count number xs s 0 many k k j n e (omega arith)

rows-fold : (count : ℕ) (number : Owner → Option ℕ) (zs xs : List SpreadPart) (many : ℕ) → fold (with_spread count number) (rows_from count number zs 0 many) xs ≡ rows_from count number (zs ++ xs) 0 many
rows-fold count number zs [] many = ap (λ ys. rows_from count number ys 0 many) (sym (append-nil zs))
rows-fold count number zs (x ∷ xs) many =
    ap (λ rows. fold (with_spread count number) rows xs) (sym (rows-more count number zs x many))
    ∙ (rows-fold count number (zs ++ x ∷ []) xs many ∙ ap (λ ys. rows_from count number ys 0 many) (append_assoc zs (x ∷ []) xs))

pub rows-made : (count : ℕ) (number : Owner → Option ℕ) (xs : List SpreadPart) (many : ℕ) → fold (with_spread count number) (replicate many []) xs ≡ rows_from count number xs 0 many
rows-made count number xs many = ap (λ rows. fold (with_spread count number) rows xs) (sym (rows-none count number 0 many)) ∙ rows-fold count number [] xs many

-- ---- rows of fragments that there are

pub length-rows_from : (count : ℕ) (number : Owner → Option ℕ) (xs : List SpreadPart) (i many : ℕ) → length (rows_from count number xs i many) ≡ many
length-rows_from count number xs i zero = refl
length-rows_from count number xs i (suc many) = ap suc (length-rows_from count number xs (i + 1) many)

known : (count : ℕ) (b : Bool) (t : Option ℕ) (js : List ℕ) → list_all (λ j. nat_lt j count) js ≡ true → list_all (λ j. nat_lt j count) (cons_option (cond b (known_target count t) None) js) ≡ true
known count false t js h = h
known count true None js h = h
known count true (Some j) js h = go (nat_lt j count) refl
  where
    go : (b : Bool) → nat_lt j count ≡ b → list_all (λ k. nat_lt k count) (cons_option (cond b (Some j) None) js) ≡ true
    go true e = rw e h
    go false e = h

pub targets-known : (count : ℕ) (number : Owner → Option ℕ) (xs : List SpreadPart) (i : ℕ) → are_below count (targets_of count number xs i) ≡ true
targets-known count number [] i = refl
targets-known count number (x ∷ xs) i = known count (is_number i (number x.owner)) x.target (targets_of count number xs i) (targets-known count number xs i)

pub rows-known : (count : ℕ) (number : Owner → Option ℕ) (xs : List SpreadPart) (i many : ℕ) → list_all (are_below count) (rows_from count number xs i many) ≡ true
rows-known count number xs i zero = refl
rows-known count number xs i (suc many) = rw (targets-known count number xs i) (rows-known count number xs (i + 1) many)

-- when each spread was taken, the rows are those of all
pub rows-final : {A : Type 0} (view : A → SpreadPart) (count : ℕ) (number : Owner → Option ℕ) (rows : List (List ℕ)) (xs left : List A) (many : ℕ) → left ≡ [] → fold (with_spread count number) rows (map view left) ≡ fold (with_spread count number) (replicate many []) (map view xs)
    → rows ≡ rows_from count number (map view xs) 0 many
rows-final view count number rows xs left many none h =
    sym (ap (λ ys. fold (with_spread count number) rows (map view ys)) none) ∙ (h ∙ rows-made count number (map view xs) many)

pub graph-known : (operations fragments : List (List ℕ)) (count many : ℕ) (ss : List SpreadPart) → operations ≡ rows_from count operation_number ss 0 many → fragments ≡ rows_from count fragment_number ss 0 count
    → are_known (record { operations = operations; fragments = fragments }) ≡ true
graph-known operations fragments count many ss o f =
    let len : length fragments ≡ count = ap length f ∙ length-rows_from count fragment_number ss 0 count in
    rw len (rw (o, f) (and_from _ _ (rows-known count operation_number ss 0 many) (rows-known count fragment_number ss 0 count)))
