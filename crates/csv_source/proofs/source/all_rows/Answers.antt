use Rattle.std.proofs.Common.{◌≡◌, ◌<◌, [], length, get_or, refl, arith}
use Rattle.std.proofs.lemmas.List.{get_or-map, take_more}
use Rattle.std.specs.Arc.{arc_value}
use Rattle.load_memory.specs.Rows.{paired}
use Rattle.csv_source.specs.Tables.{rows_of}
use Rattle.csv_source.proofs.Links.{length-rows_of}
use Rattle.csv_source.proofs.source.all_rows.Goals as goal

pub loop-place-preserved : goal.loop-place-preserved
loop-place-preserved c =
    let s = c.args.table.now in
    let place = c.loop-place.place in
    let value : arc_value c.sheet-sheet.result.now ≡ s = c.sheet-sheet.ensures.value in
    let lt : place < length s.rows = omega (arith, c.loop-place-test.true, rw (c.deref-2.ensures, value) at c.len-place-end.ensures.count) in
    let row : get_or (rows_of s) place [] ≡ paired s.names (get_or s.rows place []) = get_or-map (paired s.names) s.rows place [] [] lt in
    rw (take_more (rows_of s) place [] (omega (arith, lt, length-rows_of s)), row, c.in_ok-push.ensures.items, c.loop-place.invariant, c.in_ok-of_sheet.ensures, value) refl
