-- Definitions of what contracts see of an item and of an outcome.
use Rattle.std.specs.Prelude.{ℕ, Bool, false, true, List, string_bytes}
use Rattle.load_memory.specs.Rows.{RowOf}
use Rattle.load_memory.specs.declared.outcome.Item.{Item}
use Rattle.load_memory.specs.declared.outcome.Item.TheVariants as item
use Rattle.load_memory.specs.declared.outcome.Outcome.{Outcome}
use Rattle.load_memory.specs.declared.outcome.Outcome.TheVariants as outcome

-- a source's answer for one key
pub data ItemOf : Type 0 where
  rows : List RowOf → ItemOf
  key_fault : List ℕ → ItemOf

-- the item of a key, or why the batch in which it was asked failed as a whole
pub data OutcomeOf : Type 0 where
  known : ItemOf → OutcomeOf
  batch_fault : List ℕ → OutcomeOf

abbrev pub item_of : Item → ItemOf
item_of (item.Rows r) = rows r
item_of (item.KeyFault t) = key_fault (string_bytes t)

abbrev pub outcome_of : Outcome → OutcomeOf
outcome_of (outcome.Rows r) = known (rows r)
outcome_of (outcome.KeyFault t) = known (key_fault (string_bytes t))
outcome_of (outcome.BatchFault t) = batch_fault (string_bytes t)

-- tells whether the batch failed as a whole
abbrev pub is_failed : Outcome → Bool
is_failed (outcome.Rows r) = false
is_failed (outcome.KeyFault t) = false
is_failed (outcome.BatchFault t) = true
