-- A text cut at the first of a byte.
use Rattle.std.specs.Prelude.{ℕ, List, [], ◌∷◌, Option, Some, None, option_map, ◌==◌, if◌then◌else◌}

abbrev pub Text : Type 0
Text = List ℕ

-- a byte more at the front of the first text
abbrev pub with_byte : ℕ → Text × Text → Text × Text
with_byte b p = (b ∷ p.0, p.1)

-- the text before the first of this byte, and the text after it
abbrev pub cut_at : ℕ → Text → Option (Text × Text)
cut_at mark [] = None
cut_at mark (b ∷ bs) =
    if b == mark then Some ([], bs) else option_map (with_byte b) (cut_at mark bs)
