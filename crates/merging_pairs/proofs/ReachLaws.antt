-- The marks of joined sets, and what they say.
use Rattle.std.proofs.Common.{◌≡◌, ℕ, Bool, true, false, ◌||◌, ◌==◌, List, [], ◌∷◌, ◌++◌, refl, sym, ◌∙◌, inl, inr}
use Rattle.std.proofs.lemmas.Bool.{or_cases, or_left, or_right}
use Rattle.merging_pairs.specs.Sets.{has}
use Rattle.merging_pairs.specs.Numbered.{is_in}
use Rattle.merging_pairs.specs.Table.{fail, AreMarks, FailsWith}

pub in-append : (ms ns : List ℕ) (x : ℕ) → is_in (ms ++ ns) x ≡ (is_in ms x || is_in ns x)
in-append [] ns x = refl
in-append (m ∷ ms) ns x = go (x == m) (in-append ms ns x)
  where
    go : (t : Bool) → is_in (ms ++ ns) x ≡ (is_in ms x || is_in ns x) → (t || is_in (ms ++ ns) x) ≡ ((t || is_in ms x) || is_in ns x)
    go true e = refl
    go false e = e

pub or-none : (x : Bool) → (x || false) ≡ x
or-none true = refl
or-none false = refl

-- the marks of two sets together are those of the joined set
pub marks-joined : (rows : List (List ℕ)) (ms ns : List ℕ) (old other new : List ℕ) → ((i : ℕ) → has new i ≡ (has old i || has other i)) → AreMarks rows (is_in ms) old → AreMarks rows (is_in ns) other → AreMarks rows (is_in (ms ++ ns)) new
marks-joined rows ms ns old other new is a b = record { only = only; all = all }
  where
    left : (c : ℕ) → FailsWith rows c (is_in ms) → FailsWith rows c (is_in (ms ++ ns))
    left c f = record { other = f.other; member = in-append ms ns f.other ∙ or_left (is_in ms f.other) (is_in ns f.other) f.member; fails = f.fails }

    right : (c : ℕ) → FailsWith rows c (is_in ns) → FailsWith rows c (is_in (ms ++ ns))
    right c f = record { other = f.other; member = in-append ms ns f.other ∙ or_right (is_in ms f.other) (is_in ns f.other) f.member; fails = f.fails }

    only : (c : ℕ) → has new c ≡ true → FailsWith rows c (is_in (ms ++ ns))
    only c e =
        elim (or_cases (has old c) (has other c) (sym (is c) ∙ e)) [
          | inl h ↦ left c (a.only c h)
          | inr h ↦ right c (b.only c h)
        ]

    all : (c d : ℕ) → is_in (ms ++ ns) d ≡ true → fail rows c d ≡ true → has new c ≡ true
    all c d m f =
        elim (or_cases (is_in ms d) (is_in ns d) (sym (in-append ms ns d) ∙ m)) [
          | inl h ↦ is c ∙ or_left (has old c) (has other c) (a.all c d h f)
          | inr h ↦ is c ∙ or_right (has old c) (has other c) (b.all c d h f)
        ]

pub members-joined : (ms ns : List ℕ) (old other new : List ℕ) → ((i : ℕ) → has new i ≡ (has old i || has other i)) → ((c : ℕ) → has old c ≡ is_in ms c) → ((c : ℕ) → has other c ≡ is_in ns c) → (c : ℕ) → has new c ≡ is_in (ms ++ ns) c
members-joined ms ns old other new is a b c = is c ∙ (rw (a c, b c) (sym (in-append ms ns c)))
