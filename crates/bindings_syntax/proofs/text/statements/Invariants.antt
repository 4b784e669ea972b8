use Rattle.std.proofs.Common.{◌≡◌, length, map}
use Rattle.bindings_syntax.specs.Reading.{statements_of}
use Rattle.bindings_syntax.specs.Seen.{numbered_seen}
use Rattle.bindings_syntax.proofs.Gathering.{with_all}
use Rattle.bindings_syntax.proofs.text.statements.Given as goal

abbrev pub invariant-loop-line : goal.invariant-loop-line
invariant-loop-line l = statements_of l.version l.initial.lines ≡ with_all (map numbered_seen l.statements.items) (statements_of l.version l.lines)

abbrev pub decreases-loop-line : goal.decreases-loop-line
decreases-loop-line l = length l.lines
