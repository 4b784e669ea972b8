use Rattle.std.proofs.Common.{◌≡◌, drop}
use Rattle.gq_schema.specs.Scan.{first_in}
use Rattle.gq_schema.specs.Types.{tree_of}
use Rattle.gq_schema.specs.Indexes.{tree_in}
use Rattle.gq_schema.specs.Uses.{broken_in, first_broken}
use Rattle.gq_schema.proofs.rules.uses.first_broken.Given as goal

abbrev pub invariant-loop-indexed : goal.invariant-loop-indexed
invariant-loop-indexed l = first_in (broken_in (tree_of l.schema) l.rule) (tree_in (drop l.indexed-index l.indexed-items)) ≡ first_broken (tree_of l.schema) l.rule
