use Rattle.std.proofs.Common.{◌≡◌, [], map, take}
use Rattle.load_memory.specs.Outcomes.{outcome_of}
use Rattle.flat_outcomes.specs.Written.{row_before, last_row, all_rows, AreWritten}
use Rattle.flat_outcomes.proofs.outcomes.FlatOutcomes.of.Given as goal

abbrev pub invariant-loop-outcome : goal.invariant-loop-outcome
invariant-loop-outcome l = record {
  written : AreWritten (map outcome_of (take l.outcome-index l.outcomes)) l.buffers.counts.items l.buffers.widths.items l.buffers.texts l.buffers.faults;
  last : row_before l.last ≡ last_row [] (all_rows (map outcome_of (take l.outcome-index l.outcomes)));
}
