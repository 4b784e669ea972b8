-- Definitions of what a flat reply says.
use Rattle.std.specs.Prelude.{ℕ, ◌≡◌, ◌<◌, ◌+◌, ◌*◌, List, [], ◌∷◌, map, take, drop, get_or, if◌then◌else◌, ◌==◌}
use Rattle.load_memory.specs.Cells.{cut, pieces}
use Rattle.load_memory.specs.Outcomes.{ItemOf, rows, key_fault}
use Rattle.load_memory.specs.Rows.{SheetOf, paired}

-- gives what stands for a number of rows where a key has a fault
abbrev pub fault_mark : ℕ
fault_mark = 4294967295

-- the sheet that these texts are, its columns' names first
abbrev pub sheet_said : ℕ → ℕ → List (List ℕ) → SheetOf
sheet_said columns count texts =
    record { names = take columns texts; rows = pieces columns count (drop columns texts) }

-- the rows of a key, and its faults, which are none or one
abbrev pub rows_in : ℕ → ℕ
rows_in n = if n == fault_mark then 0 else n

abbrev pub faults_in : ℕ → ℕ
faults_in n = if n == fault_mark then 1 else 0

-- the rows of all keys
unfoldable pub total_rows : List ℕ → ℕ
total_rows [] = 0
total_rows (n ∷ ns) = rows_in n + total_rows ns

-- the keys that have a fault
unfoldable pub total_faults : List ℕ → ℕ
total_faults [] = 0
total_faults (n ∷ ns) = faults_in n + total_faults ns

-- the names of the columns, a field for each row and column, and why keys have faults
abbrev pub texts_wanted : ℕ → List ℕ → ℕ
texts_wanted columns counts = columns + total_rows counts * columns + total_faults counts

-- a key takes the first fault, or the first `n` of the rows
abbrev pub item_said : List (List ℕ) → List (List (List ℕ)) → List (List ℕ) → ℕ → ItemOf
item_said names all faults n = if n == fault_mark then key_fault (get_or faults 0 [])
    else rows (map (paired names) (take n all))

-- the items of the keys, each from what those before it left
unfoldable pub items_of : List (List ℕ) → List (List (List ℕ))
    → List (List ℕ) → List ℕ → List ItemOf
items_of names all faults [] = []
items_of names all faults (n ∷ ns) = item_said names all faults n
    ∷ items_of names (drop (rows_in n) all) (drop (faults_in n) faults) ns

-- the items of texts that are the columns' names, then the fields of all rows, and then the faults
abbrev pub items_said : ℕ → List ℕ → List (List ℕ) → List ItemOf
items_said columns counts texts =
    let total = total_rows counts in
    items_of (take columns texts) (pieces columns total (drop columns texts))
    (drop (columns + total * columns) texts) counts

-- the items of a reply: its texts are those of the bytes that end at these places
abbrev pub reply_items : ℕ → List ℕ → List ℕ → List ℕ → List ItemOf
reply_items columns counts ends bytes = items_said columns counts (cut bytes 0 ends)

-- there are rows, and no column
abbrev pub LacksColumn : ℕ → List ℕ → Type 0
LacksColumn columns counts = (columns ≡ 0) × (0 < total_rows counts)
