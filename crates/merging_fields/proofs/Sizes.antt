-- The table has as many fields as the order has numbers, and a place for each.
use Rattle.std.proofs.Common.{◌≡◌, ap, refl, ℕ, suc, ◌<◌, List, [], ◌∷◌, length}
use Rattle.merging_pairs.specs.declared.field.Field as table
use Rattle.rules_parts.specs.Parts.{PartsOf}
use Rattle.merging_members.specs.SetMembers.{to}
use Rattle.merging_fields.specs.Numbered.{AreNumbered, IsInverse}
use Rattle.merging_fields.proofs.Joining.{got-below}

pub as-many : (p : PartsOf) (numbers : List ℕ) (spread : List ℕ → List ℕ) (order : List ℕ) (xs : List table.Field) → AreNumbered p numbers spread order xs → length xs ≡ length order
as-many p numbers spread [] [] are = refl
as-many p numbers spread (a ∷ order) (x ∷ xs) are = ap suc (as-many p numbers spread order xs are.1)
as-many p numbers spread [] (x ∷ xs) are = absurd are
as-many p numbers spread (a ∷ order) [] are = absurd are

pub has-place : (order numbers : List ℕ) → IsInverse order numbers (length order) → (a : ℕ) → a < length order → to numbers a < length order
has-place order numbers inverse a h = got-below order (to numbers a) a (inverse a h)
