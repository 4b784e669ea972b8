use Rattle.std.proofs.Common.{◌≡◌, ◌<◌, ◌∙◌, length, get_or, [], ap, sym, arith}
use Rattle.std.proofs.lemmas.List.{get_or_read}
use Rattle.std.specs.Prelude.{◌==◌, false, true}
use Rattle.csv_source.specs.Hashes.{pair_in_bucket}
use Rattle.csv_source.specs.Tables.{rows_of}
use Rattle.csv_source.proofs.Links.{links-past, links-more, in_bucket-pair, in_bucket-first_null, in_bucket-second_null, length-rows_of}
use Rattle.csv_source.proofs.pair_index.link.Goals as goal

pub returns-then-is_empty-clause-linked : goal.returns-then-is_empty-clause-linked
returns-then-is_empty-clause-linked c =
    let s = c.args.sheet.now in
    let by = c.args.by in
    let null : (length c.field-one.result.now == 0) ≡ true = sym c.is_empty.ensures ∙ c.if-is_empty.true in
    links-past (pair_in_bucket by.mode (get_or s.names by.column []) (get_or s.names by.second [])) (rows_of s) c.args.links.now.first.items c.args.links.now.next.items c.args.row c.requires.linked
    (λ other. in_bucket-first_null s by.column by.second c.args.row by.mode (length c.args.links.now.first.items) other c.requires.columns.rectangular c.requires.columns.named.0 c.requires.columns.named.1 c.requires.row (rw c.field-one.ensures at null))

pub returns-then-is_empty-2-clause-linked : goal.returns-then-is_empty-2-clause-linked
returns-then-is_empty-2-clause-linked c =
    let s = c.args.sheet.now in
    let by = c.args.by in
    let null : (length c.field-two.result.now == 0) ≡ true = sym c.is_empty-2.ensures ∙ c.if-is_empty-2.true in
    links-past (pair_in_bucket by.mode (get_or s.names by.column []) (get_or s.names by.second [])) (rows_of s) c.args.links.now.first.items c.args.links.now.next.items c.args.row c.requires.linked
    (λ other. in_bucket-second_null s by.column by.second c.args.row by.mode (length c.args.links.now.first.items) other c.requires.columns.rectangular c.requires.columns.named.0 c.requires.columns.named.1 c.requires.row (rw c.field-two.ensures at null))

pub returns-clause-linked : goal.returns-clause-linked
returns-clause-linked c =
    let s = c.args.sheet.now in
    let by = c.args.by in
    let size : c.len.result ≡ length c.args.links.now.first.items = c.len.ensures ∙ c.args.links.now.first.ok.0 in
    let lt : c.pair_bucket-bucket.result < length c.args.links.now.first.items = omega (arith, c.pair_bucket-bucket.ensures.within, size) in
    let within : c.args.row < length (rows_of s) = omega (arith, c.requires.row, length-rows_of s) in
    let first_there : (length c.field-one.result.now == 0) ≡ false = sym c.is_empty.ensures ∙ c.if-is_empty.false in
    let second_there : (length c.field-two.result.now == 0) ≡ false = sym c.is_empty-2.ensures ∙ c.if-is_empty-2.false in
    let value = rw (c.field-one.ensures, c.field-two.ensures, size) at c.pair_bucket-bucket.ensures.value in
    let head = get_or_read _ _ _ lt c.index.ensures 0 in
    rw head (links-more (pair_in_bucket by.mode (get_or s.names by.column []) (get_or s.names by.second [])) (rows_of s) c.args.links.now.first.items c.args.links.now.next.items c.args.row c.requires.linked c.pair_bucket-bucket.result lt within
    (λ other. in_bucket-pair s by.column by.second c.args.row by.mode (length c.args.links.now.first.items) other c.requires.columns.rectangular c.requires.columns.named.0 c.requires.columns.named.1 c.requires.row (rw c.field-one.ensures at first_there) (rw c.field-two.ensures at second_there)
    ∙ ap (λ n. n == other) (sym value)))
