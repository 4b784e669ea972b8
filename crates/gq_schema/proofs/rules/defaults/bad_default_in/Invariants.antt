use Rattle.std.proofs.Common.{◌≡◌, drop}
use Rattle.schema_syntax.specs.Tree.{fields_of}
use Rattle.gq_schema.specs.Scan.{first_in}
use Rattle.gq_schema.specs.Types.{tree_of}
use Rattle.gq_schema.specs.Defaults.{bad_default_of}
use Rattle.gq_schema.proofs.rules.defaults.bad_default_in.Given as goal

abbrev pub invariant-loop-field : goal.invariant-loop-field
invariant-loop-field l = first_in (bad_default_of (tree_of l.schema)) (fields_of (drop l.field-index l.fields)) ≡ first_in (bad_default_of (tree_of l.schema)) (fields_of l.fields)
