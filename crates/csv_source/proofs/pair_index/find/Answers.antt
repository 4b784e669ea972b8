use Rattle.std.proofs.Common.{◌≡◌, ◌<◌, ◌∙◌, length, get_or, [], sym, arith}
use Rattle.std.proofs.lemmas.List.{get_or_read}
use Rattle.load_memory.specs.Keys.{fold_text}
use Rattle.csv_source.specs.Hashes.{pair_bucket_of, pair_in_bucket}
use Rattle.csv_source.specs.Tables.{rows_of, has_pair}
use Rattle.csv_source.proofs.Links.{length-rows_of, has_pair-in_bucket}
use Rattle.csv_source.proofs.Walks.{in_bucket-has_pair, search-start, search-step, search-end}
use Rattle.csv_source.proofs.pair_index.find.Goals as goal

pub loop-after-init : goal.loop-after-init
loop-after-init c = search-start _ _ _ c.args.place c.requires.reached

pub returns-then-is_same_pair : goal.returns-then-is_same_pair
returns-then-is_same_pair c =
    let s = c.args.sheet.now in
    let by = c.args.by in
    let mode = by.mode in
    let name = get_or s.names by.column [] in
    let other = get_or s.names by.second [] in
    let first = c.args.links.now.first.items in
    let next = c.args.links.now.next.items in
    let place = c.loop-after.place in
    let one = fold_text mode c.args.one.now in
    let two = fold_text mode c.args.two.now in
    let bucket = pair_bucket_of mode (length first) one two in
    let here = c.in-Some.ensures.lookup in
    let linked : place < length next = rw c.deref.ensures.value at here.3.0 in
    let lt : place < length (rows_of s) = omega (arith, linked, c.requires.index.linked.links) in
    let within : place < length s.rows = omega (arith, lt, length-rows_of s) in
    let has = has_pair-in_bucket s by.column by.second place mode (length first) bucket c.requires.index.rectangular c.requires.index.named.0 c.requires.index.named.1 within one two (c.loop-after.invariant.reached lt) in
    let tested : c.is_same_pair.result ≡ has_pair mode name other one two (get_or (rows_of s) place []) = rw (← has) at c.is_same_pair.ensures in
    search-end _ _ _ c.args.place place c.loop-after.invariant (λ inside. sym tested ∙ c.if-is_same_pair.true)

pub loop-after-preserved : goal.loop-after-preserved
loop-after-preserved c =
    let s = c.args.sheet.now in
    let by = c.args.by in
    let mode = by.mode in
    let name = get_or s.names by.column [] in
    let other = get_or s.names by.second [] in
    let first = c.args.links.now.first.items in
    let next = c.args.links.now.next.items in
    let place = c.loop-after.place in
    let one = fold_text mode c.args.one.now in
    let two = fold_text mode c.args.two.now in
    let bucket = pair_bucket_of mode (length first) one two in
    let here = c.in-Some.ensures.lookup in
    let linked : place < length next = rw c.deref.ensures.value at here.3.0 in
    let lt : place < length (rows_of s) = omega (arith, linked, c.requires.index.linked.links) in
    let within : place < length s.rows = omega (arith, lt, length-rows_of s) in
    let has = has_pair-in_bucket s by.column by.second place mode (length first) bucket c.requires.index.rectangular c.requires.index.named.0 c.requires.index.named.1 within one two (c.loop-after.invariant.reached lt) in
    let tested : c.is_same_pair.result ≡ has_pair mode name other one two (get_or (rows_of s) place []) = rw (← has) at c.is_same_pair.ensures in
    let after = get_or_read _ _ _ linked (rw c.deref.ensures.value at here.1) 0 in
    rw after (search-step (pair_in_bucket mode name other) (rows_of s) first next c.requires.index.linked (has_pair mode name other one two) bucket
    (in_bucket-has_pair mode name other one two (length first)) place lt c.args.place c.loop-after.invariant (sym tested ∙ c.if-is_same_pair.false))

pub returns : goal.returns
returns c = search-end _ _ _ c.args.place c.loop-after.place c.loop-after.invariant (λ inside. absurd (omega (arith, inside, c.requires.index.linked.links, c.in_default.ensures.lookup)))
