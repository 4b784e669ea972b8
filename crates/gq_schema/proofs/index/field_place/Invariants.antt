use Rattle.std.proofs.Common.{◌≡◌, drop}
use Rattle.schema_syntax.specs.Tree.{fields_of}
use Rattle.gq_schema.specs.Types.{is_field}
use Rattle.gq_schema.specs.Places.{place_from}
use Rattle.gq_schema.proofs.index.field_place.Given as goal

abbrev pub invariant-loop-i : goal.invariant-loop-i
invariant-loop-i l = place_from l.i (is_field l.name) (fields_of (drop l.i l.fields)) ≡ place_from 0 (is_field l.name) (fields_of l.fields)
