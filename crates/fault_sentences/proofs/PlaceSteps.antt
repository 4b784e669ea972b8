-- The place of a byte by that of the byte before.
use Rattle.std.proofs.Common.{◌≡◌, ℕ, zero, suc, ◌+◌, ◌<◌, List, [], ◌∷◌, length, get_or, drop, refl, arith, add-one}
use Rattle.text_place.specs.declared.place.Place.{Place}
use Rattle.gq_lexer.specs.Place.{next_place, place_after}

pub place_next : (p : Place) (bs : List ℕ) (i : ℕ) → i < length bs
    → place_after p bs (suc i) ≡ next_place (place_after p bs i) (get_or bs i 0) (drop (suc i) bs)
place_next p [] i h = absurd (omega (arith, h))
place_next p (b ∷ bs) zero h = refl
place_next p (b ∷ bs) (suc i) h = place_next (next_place p b bs) bs i (omega (arith, h))

pub place_step : (p : Place) (bs : List ℕ) (i : ℕ) → i < length bs
    → place_after p bs (i + 1) ≡ next_place (place_after p bs i) (get_or bs i 0) (drop (i + 1) bs)
place_step p bs i h = rw add-one (place_next p bs i h)
