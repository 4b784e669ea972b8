use Rattle.std.proofs.Common.{◌≡◌, map}
use Rattle.gq_schema.specs.declared.index.IndexedDefinition.{IndexedDefinition}
use Rattle.gq_schema.proofs.index.index.Given as goal

abbrev pub invariant-loop-definition : goal.invariant-loop-definition
invariant-loop-definition l = map (λ (indexed : IndexedDefinition). indexed.definition) l.all.items ≡ l.yielded
