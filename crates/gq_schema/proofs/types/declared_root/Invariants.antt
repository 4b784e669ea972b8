use Rattle.std.proofs.Common.{◌≡◌, drop}
use Rattle.gq_schema.specs.Types.{declared_root}
use Rattle.gq_schema.specs.Indexes.{tree_in}
use Rattle.gq_schema.proofs.types.declared_root.Given as goal

abbrev pub invariant-loop-indexed : goal.invariant-loop-indexed
invariant-loop-indexed l = declared_root (tree_in (drop l.indexed-index l.definitions)) ≡ declared_root (tree_in l.definitions)
