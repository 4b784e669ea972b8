use Rattle.std.proofs.Common.{◌≡◌, ◌<◌, ◌++◌, ◌∷◌, ◌∙◌, [], length, get_or, ap, sym, refl, arith}
use Rattle.std.specs.Prelude.{is_none}
use Rattle.std.proofs.lemmas.List.{length-map}
use Rattle.load_memory.specs.Keys.{cache_of, borrowed_of}
use Rattle.load_memory.specs.Rows.{SheetOf, paired}
use Rattle.flat_rows.specs.Grouped.{look_by, place_in}
use Rattle.flat_rows.specs.Keyed.{by_of, rows_in_sheet}
use Rattle.flat_rows.proofs.KeyedItems.{gone-before, look-row, place-none, row-in, row-more, some-within}
use Rattle.flat_rows.proofs.keyed.group_rows.Goals as goal

pub returns-in_default-clause-fault : goal.returns-in_default-clause-fault
returns-in_default-clause-fault c =
    let s = c.args.sheet.now.value in let given = rows_in_sheet s in let i = c.loop-row.row in
    let by = by_of c.args.by.now in let at = place_in c.args.asked.now.first in
    let end = c.len-row-end.ensures.count ∙ ap (λ (s : SheetOf). length s.rows) c.deref.ensures in
    let lt : i < length s.rows = omega (arith, c.loop-row-test.true, end) in
    let le : i < length given = omega (arith, lt, length-map s.rows (paired s.names)) in
    let found = look-row by at s i c.args.places c.requires.places lt (cache_of c.set.new.self) (borrowed_of c.key_at.result) c.in_ok-set.ensures (rw c.deref-in-loop-row.ensures at c.key_at.ensures) in
    (i, refl, place-none (look_by by at) given i le (gone-before (look_by by at) given i (omega (arith, le)) c.loop-row.invariant.all_go) (ap is_none (found ∙ sym c.in_default.ensures)))

pub loop-row-preserved : goal.loop-row-preserved
loop-row-preserved c =
    let s = c.args.sheet.now.value in let given = rows_in_sheet s in let i = c.loop-row.row in
    let by = by_of c.args.by.now in let at = place_in c.args.asked.now.first in let was = c.index_mut.result.now in
    let end = c.len-row-end.ensures.count ∙ ap (λ (s : SheetOf). length s.rows) c.deref.ensures in
    let lt : i < length s.rows = omega (arith, c.loop-row-test.true, end) in
    let le : i < length given = omega (arith, lt, length-map s.rows (paired s.names)) in
    let found = look-row by at s i c.args.places c.requires.places lt (cache_of c.set.new.self) (borrowed_of c.key_at.result) c.in_ok-set.ensures (rw c.deref-in-loop-row.ensures at c.key_at.ensures) in
    let room = some-within _ (length c.args.asked.now.of_keys.items) c.in-Some.place (c.requires.within (cache_of c.set.new.self)) c.in-Some.ensures in
    let new : c.push.new.self ≡ was ++ get_or given i [] ∷ [] = c.in_ok-push.ensures.ok ∙ ap (λ r. was ++ r ∷ []) (c.in_ok-of_sheet.ensures ∙ sym (row-in s i lt)) in
    rw new (row-more (look_by by at) given i c.in-Some.place (length c.args.asked.now.of_keys.items) c.loop-row.groups.items was le (found ∙ sym c.in-Some.ensures) room c.index_mut.ensures.value c.loop-row.invariant)
