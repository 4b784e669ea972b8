use Rattle.std.proofs.Common.{◌≡◌, ◌+◌, ◌≤◌, ◌<◌, ◌^◌, drop}
use Rattle.flat_rows.specs.Replies.{total_rows, total_faults}
use Rattle.flat_rows.proofs.reply.totals_of.Given as goal

abbrev pub invariant-loop-count : goal.invariant-loop-count
invariant-loop-count l = record {
  rows : l.rows + total_rows (drop l.count-index l.counts) ≡ total_rows l.counts;
  faults : l.faults + total_faults (drop l.count-index l.counts) ≡ total_faults l.counts;
  few : l.faults ≤ l.count-index;
  fits : l.rows < 2 ^ 32;
}
