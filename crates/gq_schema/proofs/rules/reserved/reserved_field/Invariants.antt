use Rattle.std.proofs.Common.{◌≡◌, drop}
use Rattle.gq_schema.specs.Scan.{first_in}
use Rattle.schema_syntax.specs.Tree.{fields_of}
use Rattle.gq_schema.specs.Reserved.{reserved_field}
use Rattle.gq_schema.proofs.rules.reserved.reserved_field.Given as goal

abbrev pub invariant-loop-field : goal.invariant-loop-field
invariant-loop-field l = first_in reserved_field (fields_of (drop l.field-index l.fields)) ≡ first_in reserved_field (fields_of l.fields)
