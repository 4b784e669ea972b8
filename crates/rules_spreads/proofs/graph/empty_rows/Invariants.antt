use Rattle.std.proofs.Common.{◌≡◌, ◌++◌, ◌-◌, [], replicate}
use Rattle.rules_spreads.specs.Rows.{rows_in}
use Rattle.rules_spreads.proofs.graph.empty_rows.Given as goal

abbrev pub invariant-loop : goal.invariant-loop
invariant-loop l = rows_in l.rows.items ++ replicate (l.count - l.counter) [] ≡ replicate l.count []
