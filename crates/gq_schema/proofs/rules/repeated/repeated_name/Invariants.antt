use Rattle.std.proofs.Common.{◌≡◌, ℕ, List, [], take, drop}
use Rattle.std.specs.List.{list_any}
use Rattle.schema_syntax.specs.Tree.{names_of}
use Rattle.gq_schema.specs.Types.{is_called}
use Rattle.gq_schema.specs.Seen.{has_text}
use Rattle.gq_schema.specs.Repeated.{repeated_name}
use Rattle.gq_schema.proofs.rules.repeated.repeated_name.Given as goal

abbrev pub invariant-loop-name : goal.invariant-loop-name
invariant-loop-name l = record {
  seen : (q : List ℕ) → has_text l.seen q ≡ list_any (is_called q) (names_of (take l.name-index l.names));
  rest : repeated_name (names_of (take l.name-index l.names)) (names_of (drop l.name-index l.names)) ≡ repeated_name [] (names_of l.names);
}
