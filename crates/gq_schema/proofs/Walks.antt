-- Lists that are gone through by place.
use Rattle.std.proofs.Common.{◌≡◌, ◌∙◌, sym, ap, ℕ, ◌+◌, ◌<◌, suc, List, ◌∷◌, length, get_or, drop, drop-cons, add-one}

-- the rest from a place on: the element there, and then the rest behind it
pub drop-next : {A : Type 0} (xs : List A) (i : ℕ) (x : A) → i < length xs → x ≡ get_or xs i x → drop i xs ≡ x ∷ drop (i + 1) xs
drop-next xs i x lt is = rw add-one (drop-cons xs i x lt ∙ ap (λ y. y ∷ drop (suc i) xs) (sym is))
