-- Keys that are one have the same rows.
-- It is here since the proof of a law of a trait may name only what is in `specs/`.
use Rattle.std.proofs.Common.{◌≡◌, List, ℕ, refl, ap}
use Rattle.std.specs.Prelude.{filter}
use Rattle.load_memory.specs.Keys.{KeyOf, all, text, pair, fold_text, folded}
use Rattle.load_memory.specs.Outcomes.{rows}
use Rattle.load_memory.specs.Rows.{RowOf}
use Rattle.load_memory.specs.declared.key.KeyMode.{KeyMode}
use Rattle.csv_source.specs.Tables.{SourceOf, ColumnsOf, no_column, one_column, two_columns, has_text, rows_by, item_of_key}

text-same : (s t : List ℕ) → text s ≡ text t → s ≡ t
text-same s t e = cc e

pair-same : (s t u v : List ℕ) → pair s t ≡ pair u v → (s ≡ u) × (t ≡ v)
pair-same s t u v e = (cc e, cc e)

rows_by-folded : (mode : KeyMode) (table : List RowOf) (columns : ColumnsOf) (j k : KeyOf)
    → folded mode j ≡ folded mode k → rows_by mode table columns j ≡ rows_by mode table columns k
rows_by-folded mode table columns all all e = refl
rows_by-folded mode table columns all (text t) e = absurd (cc e)
rows_by-folded mode table columns all (pair s t) e = absurd (cc e)
rows_by-folded mode table columns (text s) all e = absurd (cc e)
rows_by-folded mode table columns (text s) (pair t u) e = absurd (cc e)
rows_by-folded mode table columns (pair s t) all e = absurd (cc e)
rows_by-folded mode table columns (pair s t) (text u) e = absurd (cc e)
rows_by-folded mode table no_column (text s) (text t) e = refl
rows_by-folded mode table (one_column column) (text s) (text t) e =
    ap (λ folded. filter (has_text mode column folded) table)
    (text-same (fold_text mode s) (fold_text mode t) e)
rows_by-folded mode table (two_columns column second) (text s) (text t) e = refl
rows_by-folded mode table no_column (pair s t) (pair u v) e = refl
rows_by-folded mode table (one_column column) (pair s t) (pair u v) e = refl
rows_by-folded mode table (two_columns column second) (pair s t) (pair u v) e =
    let parts =
    pair-same (fold_text mode s) (fold_text mode t) (fold_text mode u) (fold_text mode v) e in
    rw (parts.0, parts.1) refl

pub item_of_key-folded : (s : SourceOf) (j k : KeyOf)
    → folded s.mode j ≡ folded s.mode k → item_of_key s j ≡ item_of_key s k
item_of_key-folded s j k e = ap (λ found. rows found) (rows_by-folded s.mode s.rows s.columns j k e)
