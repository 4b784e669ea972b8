-- Definitions of which fault of a reply is its first.
use Rattle.std.specs.Prelude.{ℕ, ◌<◌, ◌≤◌, ◌^◌, List, IsUtf8, length}
use Rattle.load_memory.specs.Cells.{IsCut}
use Rattle.flat_rows.specs.Replies.{LacksColumn, texts_wanted, total_rows}
use Rattle.flat_rows.specs.declared.fault.FlatFault.{FlatFault}
use Rattle.flat_rows.specs.declared.fault.FlatFault.TheVariants as fault

-- says why these bytes with these ends are no texts
pub data TextFault (bytes ends : List ℕ) : FlatFault → Type 0 where
  not_utf8 : ¬ (IsUtf8 bytes) → TextFault bytes ends fault.NotUtf8
  bad_ends : IsUtf8 bytes → ¬ (IsCut bytes 0 ends) → TextFault bytes ends fault.BadEnds

-- says why these columns and numbers of rows are no reply of that number of texts: the first fault that is true of them
pub data CountFault (columns : ℕ) (counts : List ℕ) (texts : ℕ) : FlatFault → Type 0 where
  too_many_rows : 2 ^ 32 ≤ total_rows counts → CountFault columns counts texts fault.TooManyRows
  no_column : total_rows counts < 2 ^ 32 → LacksColumn columns counts
      → CountFault columns counts texts fault.NoColumn
  too_few_texts : total_rows counts < 2 ^ 32
      → ¬ (LacksColumn columns counts) → texts < texts_wanted columns counts
      → CountFault columns counts texts fault.TooFewTexts
  texts_left : total_rows counts < 2 ^ 32 → ¬ (LacksColumn columns counts)
      → texts_wanted columns counts < texts
      → CountFault columns counts texts fault.TextsLeft

-- Reason why a reply isn't taken: the first fault that is true of it. Memory may run out before it is found.
pub data ReplyFault (columns : ℕ) (counts ends bytes : List ℕ) : FlatFault → Type 0 where
  of_texts : (e : FlatFault) → TextFault bytes ends e → ReplyFault columns counts ends bytes e
  of_counts : (e : FlatFault) → IsUtf8 bytes → IsCut bytes 0 ends
      → CountFault columns counts (length ends) e → ReplyFault columns counts ends bytes e
  no_memory : ReplyFault columns counts ends bytes fault.NoMemory
