use Rattle.std.proofs.Common.{◌-◌, [], length, get_or}
use Rattle.load_memory.specs.Keys.{fold_text}
use Rattle.csv_source.specs.Hashes.{pair_bucket_of, pair_in_bucket}
use Rattle.csv_source.specs.Tables.{rows_of, has_pair}
use Rattle.csv_source.proofs.Walks.{IsSearch}
use Rattle.csv_source.proofs.pair_index.find.Given as goal

abbrev pub invariant-loop-after : goal.invariant-loop-after
invariant-loop-after l =
    let mode = l.by.mode in
    let name = get_or l.sheet.names l.by.column [] in
    let other = get_or l.sheet.names l.by.second [] in
    let buckets = length l.links.first.items in
    let one = fold_text mode l.one in
    let two = fold_text mode l.two in
    IsSearch (has_pair mode name other one two) (pair_in_bucket mode name other buckets (pair_bucket_of mode buckets one two)) (rows_of l.sheet) l.place-2 l.place

abbrev pub decreases-loop-after : goal.decreases-loop-after
decreases-loop-after l = length (rows_of l.sheet) - l.place
