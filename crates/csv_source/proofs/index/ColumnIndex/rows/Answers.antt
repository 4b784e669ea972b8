use Rattle.std.proofs.Common.{◌≡◌, ◌<◌, ◌∙◌, [], length, arith}
use Rattle.std.proofs.lemmas.List.{get_or_read}
use Rattle.std.specs.Arc.{arc_value}
use Rattle.csv_source.proofs.Lookups.{text-start, text-next, text-step, text-later, text-within, text-all}
use Rattle.csv_source.proofs.index.ColumnIndex.rows.Goals as goal

pub returns-in_default : goal.returns-in_default
returns-in_default c =
    let x = c.self.inside in
    let s = arc_value x.sheet in
    let first = x.links.first.items in
    let size : c.len.result ≡ length first = c.len.ensures ∙ x.links.first.ok.0 in
    let lt : c.bucket.result < length first = omega (arith, c.bucket.ensures.within, size) in
    let head = get_or_read _ _ _ lt c.index-head.ensures 0 in
    let walk = text-start s x.column x.mode first x.links.next.items c.self.invariant c.args.text.now c.bucket.result c.index-head.result.now c.find-place.result lt (rw size at c.bucket.ensures.value) head (rw c.deref.ensures at c.find-place.ensures) in
    rw (← c.self.view_is, c.none.ensures) (text-all s x.column x.mode first x.links.next.items c.self.invariant c.args.text.now c.find-place.result [] (omega (arith, c.in_default.ensures.lookup)) walk)

pub find-place-requires-2-clause-reached : goal.find-place-requires-2-clause-reached
find-place-requires-2-clause-reached c =
    let x = c.self.inside in
    let s = arc_value x.sheet in
    let first = x.links.first.items in
    let size : c.len.result ≡ length first = c.len.ensures ∙ x.links.first.ok.0 in
    let lt : c.bucket.result < length first = omega (arith, c.bucket.ensures.within, size) in
    let head = get_or_read _ _ _ lt c.index-head.ensures 0 in
    let walk = text-start s x.column x.mode first x.links.next.items c.self.invariant c.args.text.now c.bucket.result c.index-head.result.now c.find-place.result lt (rw size at c.bucket.ensures.value) head (rw c.deref.ensures at c.find-place.ensures) in
    let there : c.find-place.result < length x.links.next.items = rw c.deref-2.ensures.value at c.in-Some.ensures.lookup.3.0 in
    let next = get_or_read _ _ _ there (rw c.deref-2.ensures.value at c.in-Some.ensures.lookup.1) 0 in
    rw (c.deref-3.ensures, next) (text-next s x.column x.mode first x.links.next.items c.self.invariant c.args.text.now c.find-place.result [] there walk)

pub returns-then-place-len : goal.returns-then-place-len
returns-then-place-len c =
    let x = c.self.inside in
    let s = arc_value x.sheet in
    let first = x.links.first.items in
    let size : c.len.result ≡ length first = c.len.ensures ∙ x.links.first.ok.0 in
    let lt : c.bucket.result < length first = omega (arith, c.bucket.ensures.within, size) in
    let head = get_or_read _ _ _ lt c.index-head.ensures 0 in
    let walk = text-start s x.column x.mode first x.links.next.items c.self.invariant c.args.text.now c.bucket.result c.index-head.result.now c.find-place.result lt (rw size at c.bucket.ensures.value) head (rw c.deref.ensures at c.find-place.ensures) in
    let there : c.find-place.result < length x.links.next.items = rw c.deref-2.ensures.value at c.in-Some.ensures.lookup.3.0 in
    let next = get_or_read _ _ _ there (rw c.deref-2.ensures.value at c.in-Some.ensures.lookup.1) 0 in
    let second = text-step s x.column x.mode first x.links.next.items c.self.invariant c.args.text.now c.find-place.result [] there walk c.find-place-2.result (rw (c.deref-3.ensures, next) at c.find-place-2.ensures) in
    rw (← c.self.view_is, c.from.ensures, c.in_ok-row.ensures) (text-all s x.column x.mode first x.links.next.items c.self.invariant c.args.text.now c.find-place-2.result _ (omega (arith, c.if-place-len.true)) second)

pub loop-after-init : goal.loop-after-init
loop-after-init c =
    let x = c.self.inside in
    let s = arc_value x.sheet in
    let first = x.links.first.items in
    let size : c.len.result ≡ length first = c.len.ensures ∙ x.links.first.ok.0 in
    let lt : c.bucket.result < length first = omega (arith, c.bucket.ensures.within, size) in
    let head = get_or_read _ _ _ lt c.index-head.ensures 0 in
    let walk = text-start s x.column x.mode first x.links.next.items c.self.invariant c.args.text.now c.bucket.result c.index-head.result.now c.find-place.result lt (rw size at c.bucket.ensures.value) head (rw c.deref.ensures at c.find-place.ensures) in
    let there : c.find-place.result < length x.links.next.items = rw c.deref-2.ensures.value at c.in-Some.ensures.lookup.3.0 in
    let next = get_or_read _ _ _ there (rw c.deref-2.ensures.value at c.in-Some.ensures.lookup.1) 0 in
    let second = text-step s x.column x.mode first x.links.next.items c.self.invariant c.args.text.now c.find-place.result [] there walk c.find-place-2.result (rw (c.deref-3.ensures, next) at c.find-place-2.ensures) in
    rw (← c.self.view_is, c.in_ok-push.ensures.items, c.in_ok-found.ensures.items, c.in_ok-row.ensures) second

pub find-place-requires-in-Some-get-clause-reached : goal.find-place-requires-in-Some-get-clause-reached
find-place-requires-in-Some-get-clause-reached c =
    let x = c.self.inside in
    let s = arc_value x.sheet in
    let first = x.links.first.items in
    let place = c.loop-after.place in
    let walk = rw (← c.self.view_is) at c.loop-after.invariant in
    let there : place < length x.links.next.items = rw c.deref-in-loop-after.ensures.value at c.in-Some-get.ensures.lookup.3.0 in
    let next = get_or_read _ _ _ there (rw c.deref-in-loop-after.ensures.value at c.in-Some-get.ensures.lookup.1) 0 in
    rw (c.deref-in-Some-get.ensures, next) (text-next s x.column x.mode first x.links.next.items c.self.invariant c.args.text.now place c.loop-after.found.items there walk)

pub loop-after-smaller : goal.loop-after-smaller
loop-after-smaller c =
    let x = c.self.inside in
    let s = arc_value x.sheet in
    let first = x.links.first.items in
    let place = c.loop-after.place in
    let walk = rw (← c.self.view_is) at c.loop-after.invariant in
    let there : place < length x.links.next.items = rw c.deref-in-loop-after.ensures.value at c.in-Some-get.ensures.lookup.3.0 in
    let next = get_or_read _ _ _ there (rw c.deref-in-loop-after.ensures.value at c.in-Some-get.ensures.lookup.1) 0 in
    let later = text-later s x.column x.mode first x.links.next.items c.self.invariant c.args.text.now place c.loop-after.found.items there walk c.find-place-in-Some-get.result (rw (c.deref-in-Some-get.ensures, next) at c.find-place-in-Some-get.ensures) in
    let within = text-within s x.column x.mode first x.links.next.items c.self.invariant c.args.text.now place c.loop-after.found.items there walk in
    rw (← c.self.view_is) (omega (arith, later, within))

pub loop-after-preserved : goal.loop-after-preserved
loop-after-preserved c =
    let x = c.self.inside in
    let s = arc_value x.sheet in
    let first = x.links.first.items in
    let place = c.loop-after.place in
    let walk = rw (← c.self.view_is) at c.loop-after.invariant in
    let there : place < length x.links.next.items = rw c.deref-in-loop-after.ensures.value at c.in-Some-get.ensures.lookup.3.0 in
    let next = get_or_read _ _ _ there (rw c.deref-in-loop-after.ensures.value at c.in-Some-get.ensures.lookup.1) 0 in
    rw (← c.self.view_is, c.in_ok-push-2.ensures.items, c.in_ok-of_sheet.ensures)
    (text-step s x.column x.mode first x.links.next.items c.self.invariant c.args.text.now place c.loop-after.found.items there walk c.find-place-in-Some-get.result (rw (c.deref-in-Some-get.ensures, next) at c.find-place-in-Some-get.ensures))
