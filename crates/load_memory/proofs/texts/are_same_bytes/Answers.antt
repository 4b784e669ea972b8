use Rattle.std.proofs.Common.{◌≡◌, ◌<◌, ◌∙◌, ℕ, suc, zero, List, [], ◌∷◌, length, get_or, refl, ap, sym, arith}
use Rattle.std.proofs.lemmas.Slice.Eq.{bytes_eq-Decides}
use Rattle.load_memory.proofs.texts.are_same_bytes.Goals as goal

-- lists of one length with the same bytes at each place
same-lists : (xs ys : List ℕ) → length xs ≡ length ys → ((k : ℕ) → k < length xs → get_or xs k 0 ≡ get_or ys k 0) → xs ≡ ys
same-lists [] [] e same = refl
same-lists [] (y ∷ ys) e same = absurd (omega (arith, e))
same-lists (x ∷ xs) [] e same = absurd (omega (arith, e))
same-lists (x ∷ xs) (y ∷ ys) e same = ap (λ b. b ∷ xs) (same zero (omega arith)) ∙ ap (λ bs. y ∷ bs) (same-lists xs ys (omega (arith, e)) (λ k lt. same (suc k) (omega (arith, lt))))

pub returns : goal.returns
returns c =
    let one = c.args.one.now in
    let other = c.args.other.now in
    let all : length one ≡ c.loop-i.i = omega (arith, c.loop-i-test.false, c.loop-i.auto.i-end) in
    sym ((bytes_eq-Decides one other).1 (same-lists one other c.requires (λ k lt. c.loop-i.invariant k (omega (arith, lt, all)))))
