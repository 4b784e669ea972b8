use Rattle.std.proofs.Common.{◌≡◌, drop}
use Rattle.schema_syntax.specs.Tree.{names_of}
use Rattle.gq_schema.specs.Types.{is_called}
use Rattle.gq_schema.specs.Places.{place_from}
use Rattle.gq_schema.proofs.index.name_place.Given as goal

abbrev pub invariant-loop-i : goal.invariant-loop-i
invariant-loop-i l = place_from l.i (is_called l.name) (names_of (drop l.i l.names)) ≡ place_from 0 (is_called l.name) (names_of l.names)
