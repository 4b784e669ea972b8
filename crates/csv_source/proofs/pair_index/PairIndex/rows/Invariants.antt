use Rattle.std.proofs.Common.{◌-◌, length}
use Rattle.load_memory.specs.Keys.{fold_text}
use Rattle.csv_source.specs.Tables.{has_pair}
use Rattle.csv_source.proofs.Walks.{IsWalk}
use Rattle.csv_source.proofs.pair_index.PairIndex.rows.Given as goal

abbrev pub invariant-loop-after : goal.invariant-loop-after
invariant-loop-after l =
    IsWalk (has_pair l.self.mode l.self.column l.self.second (fold_text l.self.mode l.one) (fold_text l.self.mode l.two)) l.self.rows l.place l.found.items

abbrev pub decreases-loop-after : goal.decreases-loop-after
decreases-loop-after l = length l.self.rows - l.place
