use Rattle.std.proofs.Common.{◌≡◌, drop, map}
use Rattle.bindings_syntax.specs.Seen.{text_seen}
use Rattle.schema_syntax.specs.Tree.{definition_of}
use Rattle.gq_schema.specs.Indexes.{definition_in}
use Rattle.gq_schema.specs.Scan.{first_in}
use Rattle.gq_schema.specs.Types.{tree_of}
use Rattle.fault_sentences.specs.Complaints.{first_unbound, unbound_of}
use Rattle.fault_sentences.proofs.missing.missing_line.Given as goal

abbrev pub invariant-loop-indexed : goal.invariant-loop-indexed
invariant-loop-indexed l =
    first_in (unbound_of (tree_of l.schema) (text_seen l.text)) (map definition_of (map definition_in (drop l.indexed-index l.indexed-items)))
    ≡ first_unbound (tree_of l.schema) (text_seen l.text)
