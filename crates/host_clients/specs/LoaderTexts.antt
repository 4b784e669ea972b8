-- The loaders of a server, as C is told.
use Rattle.std.specs.Prelude.{ℕ, ◌+◌, List, [], ◌∷◌, Option, Some, None, if◌then◌else◌}
use Rattle.bindings_syntax.specs.Statements.{ByOf}
use Rattle.gq_bindings.specs.Tree.{LoaderOf}

abbrev pub parts_of : Option (List ℕ) → ℕ
parts_of None = 1
parts_of (Some second) = 2

-- gives how many texts a key has: as many as the loader has columns
abbrev pub width_by : Option ByOf → ℕ
width_by None = 0
width_by (Some by) = parts_of by.second

abbrev pub kind_by : Option ByOf → ℕ
kind_by None = 0
kind_by (Some by) = if by.fold then parts_of by.second + 4 else parts_of by.second

-- gives how many texts a key has, and 4 more where keys are compared without the case of A to Z
abbrev pub kind_of : LoaderOf → ℕ
kind_of l = kind_by l.by

abbrev pub text_or_none : Option (List ℕ) → List ℕ
text_or_none None = []
text_or_none (Some text) = text

abbrev pub columns_by : Option ByOf → List (List ℕ)
columns_by None = [] ∷ [] ∷ []
columns_by (Some by) = by.column ∷ text_or_none by.second ∷ []

-- the name, the table, and the columns that it is by
abbrev pub texts_of : LoaderOf → List (List ℕ)
texts_of l = l.name ∷ l.table ∷ columns_by l.by
