-- Definitions of which of two places stands first in a text.
use Rattle.std.specs.Prelude.{Bool, ◌&&◌, ◌||◌, ◌==◌, nat_lt}
use Rattle.text_place.specs.declared.place.Place.{Place}

-- the line is an earlier one, or it is the same and the column is an earlier one
abbrev pub is_before : Place → Place → Bool
is_before p q = nat_lt p.line q.line || (p.line == q.line && nat_lt p.column q.column)
