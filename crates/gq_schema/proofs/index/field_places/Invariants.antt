use Rattle.std.proofs.Common.{◌≡◌, ℕ, List, drop}
use Rattle.std.specs.HashMap.{get_by_text}
use Rattle.schema_syntax.specs.Tree.{fields_of}
use Rattle.gq_schema.specs.Scan.{or_else}
use Rattle.gq_schema.specs.Types.{is_field}
use Rattle.gq_schema.specs.Places.{place_from}
use Rattle.gq_schema.proofs.index.field_places.Given as goal

abbrev pub invariant-loop-i : goal.invariant-loop-i
invariant-loop-i l = (q : List ℕ) → or_else (get_by_text l.places q) (place_from l.i (is_field q) (fields_of (drop l.i l.fields))) ≡ place_from 0 (is_field q) (fields_of l.fields)
