-- Lemmas on what a change of one pass does to the parts and to the orders taken.
use Rattle.std.proofs.Common.{◌≡◌, ◌≢◌, ℕ, zero, suc, ◌+◌, ◌≤◌, List, [], ◌∷◌, ◌++◌, set, sym, refl, ap, ◌∙◌, ap₂, append_assoc, append-nil, arith, IsPermutation}
use Rattle.std.proofs.lemmas.List.Sorted.{IsPermutation-append_right, IsPermutation-append_comm}
use mathlib.Core.Option.{some, some-injective, some-ne-none}
use lib.ListN.{get_elem?}
use Rattle.load_queue.specs.Orders.{CutOf}
use Rattle.batch_workers.specs.declared.desk.Knowledge.{Knowledge}
use Rattle.batch_workers.specs.Desk.{knowledge, taken_of, parts_of}

pub parts_set : (views : List Knowledge) (port : ℕ) (v w : Knowledge) → get_elem? views port ≡ some v → parts_of (set views port w) + v.parts ≡ parts_of views + w.parts
parts_set [] port v w e = absurd (some-ne-none v (sym e))
parts_set (x ∷ xs) zero v w e = let q = ap (λ (u : Knowledge). u.parts) (some-injective x v e) in omega arith
parts_set (x ∷ xs) (suc port) v w e = let s = parts_set xs port v w e in omega arith

pub parts_snoc : (views : List Knowledge) (w : Knowledge) → parts_of (views ++ w ∷ []) ≡ parts_of views + w.parts
parts_snoc [] w = omega arith
parts_snoc (x ∷ xs) w = let s = parts_snoc xs w in omega arith

pub parts_at : (views : List Knowledge) (port : ℕ) (v : Knowledge) → get_elem? views port ≡ some v → v.parts ≤ parts_of views
parts_at views port v e = let s = parts_set views port v (knowledge 0 [] []) e in omega arith

pub taken_same : (views : List Knowledge) (port : ℕ) (v w : Knowledge) → get_elem? views port ≡ some v → w.taken ≡ v.taken → taken_of (set views port w) ≡ taken_of views
taken_same [] port v w e same = absurd (some-ne-none v (sym e))
taken_same (x ∷ xs) zero v w e same = ap (λ t. t ++ taken_of xs) (same ∙ ap (λ (u : Knowledge). u.taken) (sym (some-injective x v e)))
taken_same (x ∷ xs) (suc port) v w e same = ap (λ t. x.taken ++ t) (taken_same xs port v w e same)

pub taken_snoc : (views : List Knowledge) (w : Knowledge) → taken_of (views ++ w ∷ []) ≡ taken_of views ++ w.taken
taken_snoc [] w = append-nil w.taken
taken_snoc (x ∷ xs) w = ap (λ t. x.taken ++ t) (taken_snoc xs w) ∙ sym (append_assoc x.taken (taken_of xs) w.taken)

-- a pass takes more
pub taken_more : (views : List Knowledge) (port : ℕ) (v w : Knowledge) (more : List CutOf) → get_elem? views port ≡ some v → w.taken ≡ v.taken ++ more → IsPermutation (taken_of views ++ more) (taken_of (set views port w))
taken_more [] port v w more e is = absurd (some-ne-none v (sym e))
taken_more (x ∷ xs) zero v w more e is =
    let q = ap (λ (u : Knowledge). u.taken) (some-injective x v e) in
    let t = taken_of xs in
    let p : IsPermutation (v.taken ++ (t ++ more)) (v.taken ++ (more ++ t)) = IsPermutation-append_right v.taken _ _ (IsPermutation-append_comm t more) in
    rw (q, is, append_assoc v.taken t more, append_assoc v.taken more t) p
taken_more (x ∷ xs) (suc port) v w more e is =
    rw (append_assoc x.taken (taken_of xs) more) (IsPermutation-append_right x.taken _ _ (taken_more xs port v w more e is))

-- a pass gives up what it has taken
pub taken_less : (views : List Knowledge) (port : ℕ) (v w : Knowledge) → get_elem? views port ≡ some v → w.taken ≡ [] → IsPermutation (taken_of views) (taken_of (set views port w) ++ v.taken)
taken_less [] port v w e is = absurd (some-ne-none v (sym e))
taken_less (x ∷ xs) zero v w e is =
    let q = ap (λ (u : Knowledge). u.taken) (some-injective x v e) in
    let p : IsPermutation (v.taken ++ taken_of xs) (taken_of xs ++ v.taken) = IsPermutation-append_comm v.taken (taken_of xs) in
    rw (q, is) p
taken_less (x ∷ xs) (suc port) v w e is =
    rw (append_assoc x.taken (taken_of (set xs port w)) v.taken) (IsPermutation-append_right x.taken _ _ (taken_less xs port v w e is))

pub taken_none : (views : List Knowledge) → ((j : ℕ) (u : Knowledge) → get_elem? views j ≡ some u → u.taken ≡ []) → taken_of views ≡ []
taken_none [] idle = refl
taken_none (x ∷ xs) idle = ap₂ ◌++◌ (idle 0 x refl) (taken_none xs (λ j u e. idle (suc j) u e))

-- all orders were taken by one worker, where the others have taken nothing
pub taken_by_one : (views : List Knowledge) (port : ℕ) (v : Knowledge) → get_elem? views port ≡ some v → ((j : ℕ) (u : Knowledge) → j ≢ port → get_elem? views j ≡ some u → u.taken ≡ []) → taken_of views ≡ v.taken
taken_by_one [] port v e idle = absurd (some-ne-none v (sym e))
taken_by_one (x ∷ xs) zero v e idle =
    ap₂ ◌++◌ (ap (λ (u : Knowledge). u.taken) (some-injective x v e)) (taken_none xs (λ j u at. idle (suc j) u (λ q. absurd (omega arith)) at)) ∙ append-nil v.taken
taken_by_one (x ∷ xs) (suc port) v e idle =
    ap₂ ◌++◌ (idle 0 x (λ q. absurd (omega arith)) refl) (taken_by_one xs port v e (λ j u other at. idle (suc j) u (λ q. other (omega arith)) at))
