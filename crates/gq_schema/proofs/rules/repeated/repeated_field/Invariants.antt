use Rattle.std.proofs.Common.{◌≡◌, ℕ, List, [], take, drop}
use Rattle.std.specs.List.{list_any}
use Rattle.schema_syntax.specs.Tree.{fields_of}
use Rattle.gq_schema.specs.Types.{is_field}
use Rattle.gq_schema.specs.Seen.{has_text}
use Rattle.gq_schema.specs.Repeated.{repeated_field}
use Rattle.gq_schema.proofs.rules.repeated.repeated_field.Given as goal

abbrev pub invariant-loop-field : goal.invariant-loop-field
invariant-loop-field l = record {
  seen : (q : List ℕ) → has_text l.seen q ≡ list_any (is_field q) (fields_of (take l.field-index l.fields));
  rest : repeated_field (fields_of (take l.field-index l.fields)) (fields_of (drop l.field-index l.fields)) ≡ repeated_field [] (fields_of l.fields);
}
