use Rattle.std.proofs.Common.{◌≡◌, ◌+◌, ◌<◌, ◌^◌, length}
use denote.Shadow.{shadow}
use denote.Text.{Utf8}
use Rattle.bindings_syntax.specs.Lines.{kept_from, statement_lines}
use Rattle.bindings_syntax.proofs.lines.Lines.next.Given as goal

abbrev pub invariant-loop-text : goal.invariant-loop-text
invariant-loop-text l = record {
  utf8 : shadow (Utf8 l.self-inside.rest.now);
  kept : l.fn.self ≡ kept_from (l.self-inside.passed + 1) (statement_lines l.self-inside.rest.now);
  count : l.self-inside.passed + length l.self-inside.rest.now < 2 ^ 64;
}

abbrev pub decreases-loop-text : goal.decreases-loop-text
decreases-loop-text l = length l.self-inside.rest.now
