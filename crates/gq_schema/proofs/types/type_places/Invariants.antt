use Rattle.std.proofs.Common.{◌≡◌, ℕ, List, drop}
use Rattle.std.specs.HashMap.{get_by_text}
use Rattle.gq_schema.specs.Scan.{or_else}
use Rattle.gq_schema.specs.Types.{defines}
use Rattle.gq_schema.specs.Indexes.{tree_in}
use Rattle.gq_schema.specs.Places.{place_from}
use Rattle.gq_schema.proofs.types.type_places.Given as goal

abbrev pub invariant-loop-i : goal.invariant-loop-i
invariant-loop-i l = (q : List ℕ) → or_else (get_by_text l.places q) (place_from l.i (defines q) (tree_in (drop l.i l.definitions))) ≡ place_from 0 (defines q) (tree_in l.definitions)
