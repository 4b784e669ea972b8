-- Look-ups of a text by the links of an index.
use Rattle.std.proofs.Common.{◌≡◌, ◌<◌, ◌≤◌, ◌+◌, ℕ, List, [], ◌∷◌, ◌++◌, length, get_or, true, arith}
use Rattle.std.proofs.lemmas.List.{get_or-map}
use Rattle.std.specs.Prelude.{filter}
use Rattle.load_memory.specs.Keys.{fold_text}
use Rattle.load_memory.specs.Rows.{RowOf, SheetOf, paired, row_at}
use Rattle.load_memory.specs.declared.key.KeyMode.{KeyMode}
use Rattle.csv_source.specs.Chains.{IsNext, IsIndex, IsBeside, IsNextOfText}
use Rattle.csv_source.specs.Hashes.{bucket_of, in_bucket}
use Rattle.csv_source.specs.Tables.{rows_of, has_text}
use Rattle.csv_source.proofs.Links.{length-rows_of}
use Rattle.csv_source.proofs.Walks.{IsWalk, walk-start, walk-step, walk-following, walk-all, in_bucket-has_text}

pub row-there : (s : SheetOf) (place : ℕ) → place < length (rows_of s) → get_or (rows_of s) place [] ≡ row_at s place
row-there s place lt =
    let within : place < length s.rows = omega (arith, lt, length-rows_of s) in
    get_or-map (paired s.names) s.rows place [] [] within

module _ (s : SheetOf) (column : ℕ) (mode : KeyMode) (first next : List ℕ) (index : IsIndex s column mode first next) (text : List ℕ) where
  abbrev name : List ℕ
  name = get_or s.names column []

  abbrev bucket : ℕ
  bucket = bucket_of mode (length first) (fold_text mode text)

  abbrev pub TextWalk : ℕ → List RowOf → Type 0
  TextWalk place found = IsWalk (has_text mode name (fold_text mode text)) (rows_of s) place found

  wider : (x : RowOf) → has_text mode name (fold_text mode text) x ≡ true → in_bucket mode name (length first) bucket x ≡ true
  wider x has = in_bucket-has_text mode name (fold_text mode text) (length first) x has

  -- from the head of the text's bucket
  pub text-start : (at head to : ℕ) → at < length first → at ≡ bucket → head ≡ get_or first at 0 → IsNextOfText s column mode text head to → TextWalk to []
  text-start at head to lt here is far =
      walk-start (in_bucket mode name) (rows_of s) first next index.linked (has_text mode name (fold_text mode text)) bucket wider to (rw here at lt) (rw (is, here) at far)

  pub text-all : (place : ℕ) (found : List RowOf) → length next ≤ place → TextWalk place found → found ≡ filter (has_text mode name (fold_text mode text)) (rows_of s)
  text-all place found past walk = walk-all _ (rows_of s) place found (omega (arith, past, index.linked.links)) walk

  module _ (place : ℕ) (found : List RowOf) (there : place < length next) (walk : TextWalk place found) where
    within : place < length (rows_of s)
    within = omega (arith, there, index.linked.links)

    following : IsNext (in_bucket mode name (length first) bucket) (rows_of s) (place + 1) (get_or next place 0)
    following = walk-following (in_bucket mode name) (rows_of s) first next index.linked (has_text mode name (fold_text mode text)) bucket wider place within found walk

    pub text-next : IsBeside s column mode (length first) text (get_or next place 0)
    text-next = following.passes

    pub text-step : (to : ℕ) → IsNextOfText s column mode text (get_or next place 0) to → TextWalk to (found ++ row_at s place ∷ [])
    text-step to far =
        rw (← row-there s place within)
        (walk-step (in_bucket mode name) (rows_of s) first next index.linked (has_text mode name (fold_text mode text)) bucket wider place within found to walk far)

    pub text-later : (to : ℕ) → IsNextOfText s column mode text (get_or next place 0) to → place < to
    text-later to far =
        let near = following.later in
        let on = far.later in
        omega arith

    pub text-within : place < length (rows_of s)
    text-within = within
