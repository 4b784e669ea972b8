use Rattle.std.proofs.Common.{◌≡◌, ◌++◌, drop}
use Rattle.schema_syntax.specs.Tree.{fields_of}
use Rattle.gq_schema.specs.Indexes.{tree_in}
use Rattle.gq_schema.specs.Entries.{entries_of}
use Rattle.gq_schema.proofs.entries.entries_of.Given as goal

abbrev pub invariant-loop-field : goal.invariant-loop-field
invariant-loop-field l = l.all.items ++ entries_of (tree_in l.definitions) (fields_of (drop l.field-index l.fields)) ≡ entries_of (tree_in l.definitions) (fields_of l.fields)
