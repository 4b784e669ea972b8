use Rattle.std.proofs.Common.{◌≡◌, drop, find}
use Rattle.bindings_syntax.specs.Seen.{text_seen}
use Rattle.gq_schema.specs.Types.{tree_of}
use Rattle.schema_syntax.specs.Tree.{fields_of}
use Rattle.fault_sentences.specs.Complaints.{lacks_line}
use Rattle.fault_sentences.proofs.missing.unbound_field.Given as goal

abbrev pub invariant-loop-field : goal.invariant-loop-field
invariant-loop-field l =
    find (lacks_line (tree_of l.schema) (text_seen l.text) l.of_type) (fields_of (drop l.field-index l.fields))
    ≡ find (lacks_line (tree_of l.schema) (text_seen l.text) l.of_type) (fields_of l.fields)
