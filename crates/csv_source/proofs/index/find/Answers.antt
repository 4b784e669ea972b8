use Rattle.std.proofs.Common.{◌≡◌, ◌<◌, ◌∙◌, length, get_or, [], sym, arith}
use Rattle.std.proofs.lemmas.List.{get_or_read}
use Rattle.load_memory.specs.Keys.{fold_text}
use Rattle.csv_source.specs.Hashes.{bucket_of, in_bucket}
use Rattle.csv_source.specs.Tables.{rows_of, has_text}
use Rattle.csv_source.proofs.Links.{length-rows_of, has_text-in_bucket}
use Rattle.csv_source.proofs.Walks.{in_bucket-has_text, search-start, search-step, search-end}
use Rattle.csv_source.proofs.index.find.Goals as goal

pub loop-after-init : goal.loop-after-init
loop-after-init c = search-start _ _ _ c.args.place c.requires.reached

pub returns-then-is_same : goal.returns-then-is_same
returns-then-is_same c =
    let s = c.args.sheet.now in
    let mode = c.args.mode in
    let name = get_or s.names c.args.column [] in
    let buckets = length c.args.links.now.first.items in
    let place = c.loop-after.place in
    let folded = fold_text mode c.args.text.now in
    let here = c.in-Some.ensures.lookup in
    let linked : place < length c.args.links.now.next.items = rw c.deref.ensures.value at here.3.0 in
    let lt : place < length (rows_of s) = omega (arith, linked, c.requires.index.linked.links) in
    let within : place < length s.rows = omega (arith, lt, length-rows_of s) in
    let has = has_text-in_bucket s c.args.column place mode buckets (bucket_of mode buckets folded) folded c.requires.index.rectangular c.requires.index.named within (c.loop-after.invariant.reached lt) in
    let tested : c.is_same.result ≡ has_text mode name folded (get_or (rows_of s) place []) = rw c.field.ensures at c.is_same.ensures ∙ sym has in
    search-end _ _ _ c.args.place place c.loop-after.invariant (λ inside. sym tested ∙ c.if-is_same.true)

pub loop-after-preserved : goal.loop-after-preserved
loop-after-preserved c =
    let s = c.args.sheet.now in
    let mode = c.args.mode in
    let name = get_or s.names c.args.column [] in
    let first = c.args.links.now.first.items in
    let next = c.args.links.now.next.items in
    let place = c.loop-after.place in
    let folded = fold_text mode c.args.text.now in
    let bucket = bucket_of mode (length first) folded in
    let here = c.in-Some.ensures.lookup in
    let linked : place < length next = rw c.deref.ensures.value at here.3.0 in
    let lt : place < length (rows_of s) = omega (arith, linked, c.requires.index.linked.links) in
    let within : place < length s.rows = omega (arith, lt, length-rows_of s) in
    let has = has_text-in_bucket s c.args.column place mode (length first) bucket folded c.requires.index.rectangular c.requires.index.named within (c.loop-after.invariant.reached lt) in
    let tested : c.is_same.result ≡ has_text mode name folded (get_or (rows_of s) place []) = rw c.field.ensures at c.is_same.ensures ∙ sym has in
    let after = get_or_read _ _ _ linked (rw c.deref.ensures.value at here.1) 0 in
    rw after (search-step (in_bucket mode name) (rows_of s) first next c.requires.index.linked (has_text mode name folded) bucket
    (in_bucket-has_text mode name folded (length first)) place lt c.args.place c.loop-after.invariant (sym tested ∙ c.if-is_same.false))

pub returns : goal.returns
returns c =
    let s = c.args.sheet.now in
    search-end _ _ _ c.args.place c.loop-after.place c.loop-after.invariant (λ inside. absurd (omega (arith, inside, c.requires.index.linked.links, c.in_default.ensures.lookup)))
