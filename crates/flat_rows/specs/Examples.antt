-- Rows in any order with what they say, worked by hand.
use Rattle.std.specs.Prelude.{ℕ, List, [], ◌∷◌, codes}
use Rattle.load_memory.specs.Keys.{KeyOf, all, text, pair}
use Rattle.load_memory.specs.Outcomes.{ItemOf, rows}
use Rattle.load_memory.specs.Rows.{RowOf}
use Rattle.load_memory.specs.declared.key.KeyMode.TheVariants.{Exact, FoldAscii}
use Rattle.flat_rows.specs.Keyed.{ByOf}

-- a row of two columns
abbrev pub person : List ℕ → List ℕ → RowOf
person id name = (codes "id", id) ∷ (codes "name", name) ∷ []

abbrev pub ada : RowOf
ada = person (codes "1") (codes "Ada")

abbrev pub bob : RowOf
bob = person (codes "2") (codes "Bob")

abbrev pub eve : RowOf
eve = person (codes "2") (codes "Eve")

abbrev pub nobody : RowOf
nobody = person [] (codes "")

abbrev pub by_id : ByOf
by_id = record { columns = text (codes "id"); mode = Exact }

abbrev pub by_name_folded : ByOf
by_name_folded = record { columns = text (codes "name"); mode = FoldAscii }

abbrev pub by_both : ByOf
by_both = record { columns = pair (codes "name") (codes "id"); mode = Exact }

abbrev pub by_none : ByOf
by_none = record { columns = all; mode = Exact }

-- the keys of two ids, of which the second has no row, and again the first
abbrev pub three_ids : List KeyOf
three_ids = text (codes "2") ∷ text (codes "3") ∷ text (codes "2") ∷ []

abbrev pub none : ItemOf
none = rows []

-- a row with two columns of one name
abbrev pub twice : RowOf
twice = (codes "id", codes "1") ∷ (codes "id", codes "2") ∷ []
