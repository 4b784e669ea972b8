-- The rows of a key, wherever they stand.
use Rattle.std.specs.Prelude.{List, [], ◌∷◌}
use Rattle.load_memory.specs.Rows.{RowOf}
use Rattle.load_memory.specs.declared.rows.Held.{Held}
use Rattle.load_memory.specs.declared.rows.Held.TheVariants as held

abbrev pub rows_held : Held → List RowOf
rows_held held.None = []
rows_held (held.One row) = row ∷ []
rows_held (held.Many rows) = rows.items
