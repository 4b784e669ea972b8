-- Passes that tell of what is broken.
use Rattle.std.proofs.Common.{◌≡◌, ◌∙◌, ◌<◌, ◌+◌, ap, sym, refl, suc, ℕ, Bool, true, false, ◌||◌, cond, List, [], ◌∷◌, ◌++◌, Option, length, get_or, map, take, drop, bytes_eq, drop-cons, add-one}
use Rattle.std.proofs.Math.Bool.{or_comm}
use Rattle.std.proofs.Math.Path.{fun_ext}
use Rattle.std.proofs.Math.Seq.{take-suc}
use Rattle.std.proofs.lemmas.Cmp.{nat_list_eq_equiv}
use Rattle.std.proofs.lemmas.List.{map-append}
use Rattle.std.proofs.lemmas.List.Folds.{list_any-append}
use Rattle.std.proofs.lemmas.List.Sums.{fold-append}
use Rattle.std.specs.List.{list_any, fold}
use Rattle.rules_parts.specs.declared.broken.EarliestViolation as rust
use Rattle.rules_parts.specs.Broken.{BrokenOf, with_broken}
use Rattle.rules_untyped.specs.Repeated.{has_name, repeated_behind, repeated}
use Rattle.rules_untyped.specs.Scans.{report, with_all, Tells, repeated_by}

-- the rest from a place on: the element there, and then the rest behind it
pub drop-next : {A : Type 0} (xs : List A) (i : ℕ) (x : A) → i < length xs → x ≡ get_or xs i x → drop i xs ≡ x ∷ drop (i + 1) xs
drop-next xs i x lt is = rw add-one (drop-cons xs i x lt ∙ ap (λ y. y ∷ drop (suc i) xs) (sym is))

-- a set's answer after a name was added
pub noted-name : (new old : Bool) (text name q : List ℕ) → text ≡ name → new ≡ cond (bytes_eq text q) true old → new ≡ (bytes_eq q name || old)
noted-name new old text name q same at = at ∙ (or-cond (bytes_eq text q) old ∙ (ap (λ b. b || old) (nat_list_eq_equiv.symm text q) ∙ ap (λ (t : List ℕ). bytes_eq q t || old) same)) where
  or-cond : (b c : Bool) → cond b true c ≡ (b || c)
  or-cond true c = refl
  or-cond false c = refl

-- a test of what is noted or still to come, one step on
pub or-more : (new old p rest total : Bool) → new ≡ (p || old) → (old || (p || rest)) ≡ total → (new || rest) ≡ total
or-more new old p rest total noted at = ap (λ b. b || rest) noted ∙ (or-swap p old rest ∙ at) where
  or-swap : (a b c : Bool) → ((a || b) || c) ≡ (b || (a || c))
  or-swap true true c = refl
  or-swap true false c = refl
  or-swap false true c = refl
  or-swap false false c = refl

-- a scan by a test that says what an earlier list has
pub repeated_by-behind : (earlier ns : List BrokenOf) → repeated_by (λ q. list_any (has_name q) earlier) ns ≡ repeated_behind earlier ns
repeated_by-behind earlier [] = refl
repeated_by-behind earlier (n ∷ ns) = ap (λ others. cond (list_any (has_name n.name) earlier) (n ∷ others) others) (repeated_by-behind (n ∷ earlier) ns)

-- all that is repeated is left before the first name
pub left-all : (stood : List ℕ → Bool) (kept : Option BrokenOf) (ns : List BrokenOf) → ((q : List ℕ) → stood q ≡ false) → fold with_broken kept (repeated_by stood ns) ≡ fold with_broken kept (repeated ns)
left-all stood kept ns none = ap (λ (s : List ℕ → Bool). fold with_broken kept (repeated_by s ns)) (fun_ext none) ∙ ap (fold with_broken kept) (repeated_by-behind [] ns)

-- the names that are left behind one that was noted, be it that this one stood earlier or not
pub left-noted : (new old : List ℕ → Bool) (kept : Option BrokenOf) (n : BrokenOf) (rest : List BrokenOf) (b : Bool) → old n.name ≡ b
    → ((q : List ℕ) → new q ≡ (bytes_eq q n.name || old q))
    → fold with_broken (cond b (with_broken kept n) kept) (repeated_by new rest) ≡ fold with_broken kept (repeated_by old (n ∷ rest))
left-noted new old kept n rest b at noted =
    ap (λ (s : List ℕ → Bool). fold with_broken (cond b (with_broken kept n) kept) (repeated_by s rest)) (fun_ext noted)
    ∙ (by_cases b (repeated_by (λ q. bytes_eq q n.name || old q) rest)
    ∙ ap (λ c. fold with_broken kept (cond c (n ∷ repeated_by (λ q. bytes_eq q n.name || old q) rest) (repeated_by (λ q. bytes_eq q n.name || old q) rest))) (sym at)) where
      by_cases : (c : Bool) (others : List BrokenOf) → fold with_broken (cond c (with_broken kept n) kept) others ≡ fold with_broken kept (cond c (n ∷ others) others)
      by_cases true others = refl
      by_cases false others = refl

-- what has one of these names, one part on
pub stood-next : {A : Type 0} (part : A → BrokenOf) (xs : List A) (i : ℕ) (x : A) → i < length xs → x ≡ get_or xs i x → (q : List ℕ)
    → list_any (has_name q) (map part (take (i + 1) xs)) ≡ (bytes_eq q (part x).name || list_any (has_name q) (map part (take i xs)))
stood-next part xs i x lt is q =
    let before = map part (take i xs) in
    let own = has_name q (part x) in
    ap (λ ys. list_any (has_name q) (map part ys)) (rw add-one (take-suc xs i x lt ∙ ap (λ y. take i xs ++ y ∷ []) (sym is)))
    ∙ (ap (list_any (has_name q)) (map-append part (take i xs) (x ∷ []))
    ∙ (list_any-append (has_name q) before (part x ∷ []) ∙ (or_comm (list_any (has_name q) before) (own || false) ∙ ap (λ b. b || list_any (has_name q) before) (or-none own)))) where
      or-none : (b : Bool) → (b || false) ≡ b
      or-none true = refl
      or-none false = refl

-- a name that is told if it is repeated
pub told-if : (kept : Option BrokenOf) (n : BrokenOf) (b : Bool) → fold with_broken kept (cond b (n ∷ []) []) ≡ cond b (with_broken kept n) kept
told-if kept n true = refl
told-if kept n false = refl

-- the report of a list and then of another
pub report-more : (old new : rust.EarliestViolation) (bs rest : List BrokenOf) → Tells old new bs → with_all new rest ≡ with_all old (bs ++ rest)
report-more old new bs rest tells = ap (λ kept. fold with_broken kept rest) tells ∙ sym (fold-append with_broken (report old) bs rest)
