use Rattle.std.proofs.Common.{◌≡◌, ◌<◌, ◌∙◌, length, get_or, [], ap, sym, arith}
use Rattle.std.proofs.lemmas.List.{get_or_read}
use Rattle.std.specs.Prelude.{◌==◌, false, true}
use Rattle.csv_source.specs.Hashes.{in_bucket}
use Rattle.csv_source.specs.Tables.{rows_of}
use Rattle.csv_source.proofs.Links.{links-past, links-more, in_bucket-text, in_bucket-null, length-rows_of}
use Rattle.csv_source.proofs.index.link.Goals as goal

pub returns-then-not-is_empty-clause-linked : goal.returns-then-not-is_empty-clause-linked
returns-then-not-is_empty-clause-linked c =
    let s = c.args.sheet.now in
    let size : c.len.result ≡ length c.args.links.now.first.items = c.len.ensures ∙ c.args.links.now.first.ok.0 in
    let lt : c.bucket-bucket.result < length c.args.links.now.first.items = omega (arith, c.bucket-bucket.ensures.within, size) in
    let within : c.args.row < length (rows_of s) = omega (arith, c.requires.row, length-rows_of s) in
    let there : (length c.field-text.result.now == 0) ≡ false = sym c.is_empty.ensures ∙ c.if-not-is_empty.true in
    let value = rw (c.field-text.ensures, size) at c.bucket-bucket.ensures.value in
    let head = get_or_read _ _ _ lt c.index.ensures 0 in
    rw head (links-more (in_bucket c.args.mode (get_or s.names c.args.column [])) (rows_of s) c.args.links.now.first.items c.args.links.now.next.items c.args.row c.requires.linked c.bucket-bucket.result lt within
    (λ other. in_bucket-text s c.args.column c.args.row c.args.mode (length c.args.links.now.first.items) other c.requires.column.rectangular c.requires.column.named c.requires.row (rw c.field-text.ensures at there) ∙ ap (λ n. n == other) (sym value)))

pub returns-else-not-is_empty-clause-linked : goal.returns-else-not-is_empty-clause-linked
returns-else-not-is_empty-clause-linked c =
    let s = c.args.sheet.now in
    let null : (length c.field-text.result.now == 0) ≡ true = sym c.is_empty.ensures ∙ c.if-not-is_empty.false in
    links-past (in_bucket c.args.mode (get_or s.names c.args.column [])) (rows_of s) c.args.links.now.first.items c.args.links.now.next.items c.args.row c.requires.linked
    (λ other. in_bucket-null s c.args.column c.args.row c.args.mode (length c.args.links.now.first.items) other c.requires.column.rectangular c.requires.column.named c.requires.row (rw c.field-text.ensures at null))
