use Rattle.std.proofs.Common.{◌≡◌, drop}
use Rattle.schema_syntax.specs.Tree.{fields_of}
use Rattle.gq_schema.specs.Types.{tree_of}
use Rattle.gq_bindings.specs.Reading.{settled_fields}
use Rattle.gq_bindings.proofs.read.Bindings.settle_fields.Given as goal

abbrev pub invariant-loop-field : goal.invariant-loop-field
invariant-loop-field l =
    settled_fields (tree_of l.schema) l.type_name l.initial.self (fields_of l.fields)
    ≡ settled_fields (tree_of l.schema) l.type_name l.self (fields_of (drop l.field-index l.fields))
