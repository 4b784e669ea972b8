use Rattle.std.proofs.Common.{◌≡◌, drop}
use Rattle.schema_syntax.specs.Tree.{fields_of}
use Rattle.gq_schema.specs.Scan.{first_in}
use Rattle.gq_schema.specs.Types.{tree_of}
use Rattle.gq_schema.specs.Uses.{broken_field}
use Rattle.gq_schema.proofs.rules.uses.broken_fields.Given as goal

abbrev pub invariant-loop-field : goal.invariant-loop-field
invariant-loop-field l = first_in (broken_field (tree_of l.schema) l.rule) (fields_of (drop l.field-index l.fields)) ≡ first_in (broken_field (tree_of l.schema) l.rule) (fields_of l.fields)
