use Rattle.std.proofs.Common.{◌≡◌, ℕ, List, [], take, drop}
use Rattle.std.specs.List.{list_any}
use Rattle.schema_syntax.specs.Tree.{arguments_of}
use Rattle.gq_schema.specs.Types.{is_argument}
use Rattle.gq_schema.specs.Seen.{has_text}
use Rattle.gq_schema.specs.Repeated.{repeated_argument}
use Rattle.gq_schema.proofs.rules.repeated.repeated_argument.Given as goal

abbrev pub invariant-loop-argument : goal.invariant-loop-argument
invariant-loop-argument l = record {
  seen : (q : List ℕ) → has_text l.seen q ≡ list_any (is_argument q) (arguments_of (take l.argument-index l.arguments));
  rest : repeated_argument (arguments_of (take l.argument-index l.arguments)) (arguments_of (drop l.argument-index l.arguments)) ≡ repeated_argument [] (arguments_of l.arguments);
}
