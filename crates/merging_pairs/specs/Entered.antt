-- Definitions of what a selection set has in all, with the fragments that it enters.
use Rattle.std.specs.Prelude.{◌≡◌, ℕ, List}
use Rattle.merging_pairs.specs.declared.sets.ReachedFields.{ReachedFields}
use Rattle.merging_pairs.specs.Sets.{has}
use Rattle.merging_pairs.specs.Numbered.{is_in}
use Rattle.merging_pairs.specs.Table.{AreMarks}

-- the fields of a set, and those that fail with one of them
pub record IsReached (rows : List (List ℕ)) (ms : List ℕ) (r : ReachedFields) : Type 0 where
  pub members : (c : ℕ) → has r.members c ≡ is_in ms c
  pub marks : AreMarks rows (is_in ms) r.marks
