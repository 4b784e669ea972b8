use Rattle.std.proofs.Common.{◌≡◌, drop}
use Rattle.gq_schema.specs.Scan.{first_in}
use Rattle.gq_schema.specs.Types.{tree_of}
use Rattle.gq_schema.specs.Indexes.{tree_in}
use Rattle.gq_schema.specs.Defaults.{bad_default_in, first_bad_default}
use Rattle.gq_schema.proofs.rules.defaults.first_bad_default.Given as goal

abbrev pub invariant-loop-indexed : goal.invariant-loop-indexed
invariant-loop-indexed l = first_in (bad_default_in (tree_of l.schema)) (tree_in (drop l.indexed-index l.indexed-items)) ≡ first_bad_default (tree_of l.schema)
