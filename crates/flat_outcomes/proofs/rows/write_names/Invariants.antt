use Rattle.std.proofs.Common.{◌≡◌, ◌++◌, take}
use Rattle.flat_outcomes.specs.Written.{names_of}
use Rattle.flat_outcomes.proofs.rows.write_names.Given as goal

abbrev pub invariant-loop-column : goal.invariant-loop-column
invariant-loop-column l = l.texts ≡ l.fn.texts ++ names_of (take l.column l.row)
