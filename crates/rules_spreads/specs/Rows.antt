-- Rows, wherever they lie in memory.
use Rattle.std.specs.Prelude.{◌≡◌, ℕ, Bool, List, [], ◌∷◌, ◌++◌, map, Option, if◌then◌else◌}
use Rattle.std.specs.Global.{Vec}
use Rattle.rules_parts.specs.declared.part.Owner.{Owner}
use Rattle.rules_parts.specs.Parts.{SpreadPart}
use Rattle.rules_spreads.specs.Graphs.{with_spread}

abbrev pub row_in : Vec ℕ → List ℕ
row_in row = row.items

abbrev pub rows_in : List (Vec ℕ) → List (List ℕ)
rows_in rows = map row_in rows

-- the rows, where there are `count` fragments, with what one more spread gives to its operation or its fragment
abbrev pub AddsSpread : ℕ → (Owner → Option ℕ) → SpreadPart → List (Vec ℕ) → List (Vec ℕ) → Type 0
AddsSpread count number s old new = rows_in new ≡ with_spread count number (rows_in old) s

-- the row, with one more number at its end if it is the one that the number was put into
abbrev pub with_number_if : Bool → List ℕ → ℕ → List ℕ
with_number_if is_it row number = if is_it then row ++ number ∷ [] else row
