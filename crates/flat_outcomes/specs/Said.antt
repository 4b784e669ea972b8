-- Definitions of what the flat buffers of outcomes say.
use Rattle.std.specs.Prelude.{ℕ, List, [], ◌∷◌, take, drop, length, get_or, if◌then◌else◌, ◌==◌}
use Rattle.load_memory.specs.Outcomes.{OutcomeOf, known, batch_fault, rows, key_fault}
use Rattle.load_memory.specs.Rows.{RowOf, paired}

-- gives what stands for a number of rows where a key has a fault
abbrev pub key_mark : ℕ
key_mark = 4294967295

-- gives what stands for a number of rows where the batch of a key failed
abbrev pub batch_mark : ℕ
batch_mark = 4294967294

-- gives what stands for a number of columns where they are those of the row before
abbrev pub same_mark : ℕ
same_mark = 4294967295

-- ---- the rows of all keys, in order

-- the names of a row's columns: those of the row before, or the next texts
abbrev pub names_said : List (List ℕ) → ℕ → List (List ℕ) → List (List ℕ)
names_said before width texts = if width == same_mark then before else take width texts

-- the texts from the row's fields on
abbrev pub after_names : ℕ → List (List ℕ) → List (List ℕ)
after_names width texts = if width == same_mark then texts else drop width texts

-- the next row: a field for each of these names
abbrev pub row_said : List (List ℕ) → List (List ℕ) → RowOf
row_said names texts = paired names (take (length names) texts)

-- a row for each number of columns, where the row before the first had these names
unfoldable pub rows_said : List (List ℕ) → List ℕ → List (List ℕ) → List RowOf
rows_said before [] texts = []
rows_said before (width ∷ widths) texts =
    let names = names_said before width texts in
    let fields = after_names width texts in
    row_said names fields ∷ rows_said names widths (drop (length names) fields)

-- ---- the outcomes of the keys, in order

-- gives how many of the rows a key takes
abbrev pub rows_taken : ℕ → ℕ
rows_taken count = if count == key_mark then 0 else (if count == batch_mark then 0 else count)

-- gives how many of the faults a key takes
abbrev pub faults_taken : ℕ → ℕ
faults_taken count = if count == key_mark then 1 else (if count == batch_mark then 1 else 0)

-- a key takes the first fault, as its own or as that of its batch, or the first `count` of the rows
abbrev pub outcome_said : ℕ → List RowOf → List (List ℕ) → OutcomeOf
outcome_said count all faults =
    if count == key_mark then known (key_fault (get_or faults 0 []))
    else (if count == batch_mark then batch_fault (get_or faults 0 [])
    else known (rows (take count all)))

-- an outcome for each number of rows, from what those before it left
unfoldable pub outcomes_of : List ℕ → List RowOf → List (List ℕ) → List OutcomeOf
outcomes_of [] all faults = []
outcomes_of (count ∷ counts) all faults =
    outcome_said count all faults
    ∷ outcomes_of counts (drop (rows_taken count) all) (drop (faults_taken count) faults)

-- the outcomes that these numbers and texts say: how many rows each key has, how many columns each row has, the texts of the rows, and
-- the faults; the first row comes after one of no columns
abbrev pub outcomes_said : List ℕ → List ℕ → List (List ℕ) → List (List ℕ) → List OutcomeOf
outcomes_said counts widths texts faults = outcomes_of counts (rows_said [] widths texts) faults
