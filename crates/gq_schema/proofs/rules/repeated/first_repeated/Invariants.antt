use Rattle.std.proofs.Common.{◌≡◌, [], take, drop}
use Rattle.gq_schema.specs.Types.{tree_of}
use Rattle.gq_schema.specs.Earlier.{Agrees}
use Rattle.gq_schema.specs.Repeated.{repeated_from}
use Rattle.gq_schema.proofs.rules.repeated.first_repeated.Given as goal

abbrev pub invariant-loop-definition : goal.invariant-loop-definition
invariant-loop-definition l = record {
  earlier : Agrees l.earlier (tree_of (take l.definition-index l.definitions));
  rest : repeated_from (tree_of (take l.definition-index l.definitions)) (tree_of (drop l.definition-index l.definitions)) ≡ repeated_from [] (tree_of l.definitions);
}
