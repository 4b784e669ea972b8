use Rattle.std.proofs.Common.{◌≡◌, drop}
use Rattle.gq_schema.specs.Types.{tree_of}
use Rattle.gq_schema.specs.Indexes.{tree_in}
use Rattle.gq_bindings.specs.Reading.{settled}
use Rattle.gq_bindings.proofs.read.Bindings.settle.Given as goal

abbrev pub invariant-loop-indexed : goal.invariant-loop-indexed
invariant-loop-indexed l =
    settled (tree_of l.schema) l.initial.self (tree_of l.schema)
    ≡ settled (tree_of l.schema) l.self (tree_in (drop l.indexed-index l.indexed-items))
