use Rattle.std.proofs.Common.{false, map, slice_index, slice_index_or, arith}
use Rattle.std.proofs.lemmas.List.{length-map}
use Rattle.gq_parser.specs.Tree.{operation_of}
use Rattle.rules_untyped.proofs.LackLaws.{lacks_span}
use Rattle.rules_untyped.proofs.spans.note_lacking.Goals as goal

pub returns : goal.returns
returns c = λ g uses k holds are within.
    let table = c.args.table.now in
    let s = slice_index table.stand_ins.items k in
    let span = c.args.span.now in
    let all = span.operations.now in
    let by_own = rw (c.deref.ensures.value, c.deref-2.ensures.value, c.deref-3.ensures.value) at (c.in_ok-note_missing_in_operations.ensures s) in
    let by_all = rw (c.deref-4.ensures.value, c.deref-5.ensures.value, c.deref-6.ensures.value, c.deref-7.ensures.value) at (c.in_ok-note_missing_in_fragments.ensures s) in
    lacks_span g uses table holds k within (map operation_of all) span.first span.count span.reached.items c.in_ok-sets.sets.items
    (slice_index_or c.args.lacking.now.items s false) (slice_index_or c.note_missing_in_operations.new.noted.items s false) (slice_index_or c.note_missing_in_fragments.new.noted.items s false)
    are (omega (arith, span.within, length-map all operation_of)) c.in_ok-sets.ensures by_own by_all
