use Rattle.std.proofs.Common.{◌≡◌, ◌≤◌, ◌+◌, ◌++◌, map, drop, length}
use Rattle.load_memory.specs.Outcomes.{item_of}
use Rattle.flat_rows.specs.Replies.{items_of, total_rows, total_faults}
use Rattle.flat_rows.proofs.reply.items.Given as goal

abbrev pub invariant-loop-count : goal.invariant-loop-count
invariant-loop-count l = let s = l.sheet.value in let left = drop l.count-index l.counts in record {
  said : map item_of l.items.items ++ items_of s.names (drop l.at s.rows) (drop l.fault l.texts) left ≡ items_of s.names s.rows (drop l.fn.faults l.texts) l.counts;
  rows : l.at + total_rows left ≡ length s.rows;
  faults : l.fault + total_faults left ≤ length l.texts;
}
