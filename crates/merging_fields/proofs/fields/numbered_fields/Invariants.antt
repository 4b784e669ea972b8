use Rattle.std.proofs.Common.{ℕ, List, take}
use Rattle.merging_members.specs.Written.{written_fields, belows, AreOwn}
use Rattle.rules_parts.specs.Parts.{parts_in}
use Rattle.merging_fields.specs.Numbered.{AreNumbered}
use Rattle.merging_fields.proofs.fields.numbered_fields.Given as goal

abbrev pub invariant-loop-number : goal.invariant-loop-number
invariant-loop-number l =
    (numbers : List ℕ) (spread : List ℕ → List ℕ) → AreOwn numbers spread 0 (belows (written_fields (parts_in l.parts).document)) l.members
    → AreNumbered (parts_in l.parts) numbers spread (take l.number-index l.order) l.fields.items
