use Rattle.std.proofs.Common.{◌≡◌, ◌-◌, [], get_or, length}
use denote.Text.{Utf8}
use denote.Shadow.{shadow}
use Rattle.bindings_syntax.specs.Lines.{statement_lines}
use Rattle.fault_sentences.specs.Lines.{line_of}
use Rattle.fault_sentences.proofs.cut.line_at.Given as goal

abbrev pub invariant-loop-line : goal.invariant-loop-line
invariant-loop-line l = record {
  utf8 : shadow (Utf8 l.rest);
  same : get_or (statement_lines l.rest) (l.left - 1) [] ≡ line_of l.bindings l.number;
}

abbrev pub decreases-loop-line : goal.decreases-loop-line
decreases-loop-line l = length l.rest
