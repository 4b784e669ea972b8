use Rattle.std.proofs.Common.{◌-◌, [], length, get_or}
use Rattle.load_memory.specs.Keys.{fold_text}
use Rattle.csv_source.specs.Hashes.{bucket_of, in_bucket}
use Rattle.csv_source.specs.Tables.{rows_of, has_text}
use Rattle.csv_source.proofs.Walks.{IsSearch}
use Rattle.csv_source.proofs.index.find.Given as goal

abbrev pub invariant-loop-after : goal.invariant-loop-after
invariant-loop-after l =
    let name = get_or l.sheet.names l.column [] in
    let buckets = length l.links.first.items in
    let folded = fold_text l.mode l.text in
    IsSearch (has_text l.mode name folded) (in_bucket l.mode name buckets (bucket_of l.mode buckets folded)) (rows_of l.sheet) l.place-2 l.place

abbrev pub decreases-loop-after : goal.decreases-loop-after
decreases-loop-after l = length (rows_of l.sheet) - l.place
