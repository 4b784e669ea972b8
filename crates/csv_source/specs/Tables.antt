-- Tables, and *Rows of a key*.
use Rattle.std.specs.Prelude.{ℕ, Bool, false, List, [], Option, Some, None, bytes_eq, not, ◌&&◌, ◌==◌, length, map, filter, get_or}
use Rattle.load_memory.specs.Keys.{KeyOf, all, text, pair, fold_text}
use Rattle.load_memory.specs.Outcomes.{ItemOf, rows}
use Rattle.load_memory.specs.Rows.{RowOf, SheetOf, paired, cell_of}
use Rattle.load_memory.specs.declared.key.KeyMode.{KeyMode}
use Rattle.load_memory.specs.declared.key.KeyMode.TheVariants.{Exact}

-- the rows of a sheet, each under its columns
abbrev pub rows_of : SheetOf → List RowOf
rows_of s = map (paired s.names) s.rows

-- the field at a place of a row equals a text
abbrev pub equals_at : KeyMode → List (List ℕ) → ℕ → List ℕ → Bool
equals_at mode fields place t =
    bytes_eq (fold_text mode t) (fold_text mode (get_or fields place []))

-- a field equals a folded text; an empty field is null, and equals none
abbrev pub cell_is : KeyMode → List ℕ → Option (List ℕ) → Bool
cell_is mode folded None = false
cell_is mode folded (Some field) = not (length field == 0) && bytes_eq folded (fold_text mode field)

-- the row's column equals a folded text
abbrev pub has_text : KeyMode → List ℕ → List ℕ → RowOf → Bool
has_text mode column folded row = cell_is mode folded (cell_of row column)

-- the row's two columns equal two folded texts
abbrev pub has_pair : KeyMode → List ℕ → List ℕ → List ℕ → List ℕ → RowOf → Bool
has_pair mode column second s t row = has_text mode column s row && has_text mode second t row

-- says what an index answers from: rows, and the column and the mode by which it finds them
pub record IndexOf : Type 0 where
  pub rows : List RowOf
  pub column : List ℕ
  pub mode : KeyMode

abbrev pub index_of : SheetOf → ℕ → KeyMode → IndexOf
index_of s column mode = record { rows = rows_of s; column = get_or s.names column []; mode = mode }

-- says what an index of pairs answers from: rows, and the two columns and the mode by which it finds
-- them
pub record PairIndexOf : Type 0 where
  pub rows : List RowOf
  pub column : List ℕ
  pub second : List ℕ
  pub mode : KeyMode

-- the index of these rows by two columns of these names
abbrev pub index_by_two : List RowOf → List ℕ → List ℕ → KeyMode → PairIndexOf
index_by_two table column second mode =
    record { rows = table; column = column; second = second; mode = mode }

abbrev pub pair_index_of : SheetOf → ℕ → ℕ → KeyMode → PairIndexOf
pair_index_of s column second mode = record {
  rows = rows_of s;
  column = get_or s.names column [];
  second = get_or s.names second [];
  mode = mode;
}

-- the columns by which a source finds its rows: none where it has all rows for one key
pub data ColumnsOf : Type 0 where
  no_column : ColumnsOf
  one_column : List ℕ → ColumnsOf
  two_columns : List ℕ → List ℕ → ColumnsOf

-- says what a source answers from: its rows, and the columns and the mode by which it finds them
pub record SourceOf : Type 0 where
  pub rows : List RowOf
  pub columns : ColumnsOf
  pub mode : KeyMode

-- the source of all rows
abbrev pub source_of_all : List RowOf → SourceOf
source_of_all table = record { rows = table; columns = no_column; mode = Exact }

-- the source by a column
abbrev pub source_by : List RowOf → List ℕ → KeyMode → SourceOf
source_by table column mode = record { rows = table; columns = one_column column; mode = mode }

-- the source by two columns
abbrev pub source_by_two : List RowOf → List ℕ → List ℕ → KeyMode → SourceOf
source_by_two table column second mode =
    record { rows = table; columns = two_columns column second; mode = mode }

abbrev pub rows_by : KeyMode → List RowOf → ColumnsOf → KeyOf → List RowOf
rows_by mode table no_column all = table
rows_by mode table no_column (text t) = []
rows_by mode table no_column (pair s t) = []
rows_by mode table (one_column column) all = []
rows_by mode table (one_column column) (text t) =
    filter (has_text mode column (fold_text mode t)) table
rows_by mode table (one_column column) (pair s t) = []
rows_by mode table (two_columns column second) all = []
rows_by mode table (two_columns column second) (text t) = []
rows_by mode table (two_columns column second) (pair s t) =
    filter (has_pair mode column second (fold_text mode s) (fold_text mode t)) table

-- the rows of a key, in file order; a key of another form than the source's has none
abbrev pub rows_of_key : SourceOf → KeyOf → List RowOf
rows_of_key s key = rows_by s.mode s.rows s.columns key

-- the item of a key: its rows
abbrev pub item_of_key : SourceOf → KeyOf → ItemOf
item_of_key s key = rows (rows_of_key s key)
