use Rattle.std.proofs.Common.{◌≡◌, drop, map}
use Rattle.bindings_syntax.specs.Seen.{numbered_seen}
use Rattle.gq_schema.specs.Types.{tree_of}
use Rattle.gq_bindings.specs.Reading.{after_statements}
use Rattle.gq_bindings.proofs.read.Bindings.add_statements.Given as goal

abbrev pub invariant-loop-numbered : goal.invariant-loop-numbered
invariant-loop-numbered l =
    after_statements (tree_of l.schema) l.initial.self (map numbered_seen l.statements)
    ≡ after_statements (tree_of l.schema) l.self (map numbered_seen (drop l.numbered-index l.statements))
