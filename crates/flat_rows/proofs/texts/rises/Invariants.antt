use Rattle.flat_rows.proofs.EndLaws.{Rest}
use Rattle.flat_rows.proofs.texts.rises.Given as goal

abbrev pub invariant-loop-end : goal.invariant-loop-end
invariant-loop-end l = Rest l.text l.ends l.start l.end-index
