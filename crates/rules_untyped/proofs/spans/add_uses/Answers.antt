use Rattle.std.proofs.Common.{◌≡◌, ◌∙◌, ◌+◌, ◌||◌, ap, eqb, List, drop, get_or, slice_index}
use Rattle.std.proofs.lemmas.List.{drop_more}
use Rattle.rules_spreads.specs.declared.operation_set.OperationSet.{OperationSet}
use Rattle.rules_spreads.specs.OperationSpans.{has, set_at, both}
use Rattle.rules_spreads.proofs.SpanLaws.{has-both}
use Rattle.rules_untyped.specs.UseRows.{is_number_among}
use Rattle.rules_untyped.proofs.SetLaws.{put_has, uses_more}
use Rattle.rules_untyped.proofs.spans.add_uses.Goals as goal

pub loop-place-preserved : goal.loop-place-preserved
loop-place-preserved c = λ n m.
    let row = c.args.row.now in
    let k = c.loop-place.place-index in
    let numbers = c.args.numbers.now in
    let old = c.loop-place.sets.items in
    let by = c.args.reached_by in
    let at = c.number_at-number.result in
    let is : at ≡ slice_index numbers (get_or row k 0) = c.number_at-number.ensures in
    let set : c.set_of.result ≡ set_at old at = c.set_of.ensures ∙ ap (λ (ss : List OperationSet). set_at ss at) c.deref.ensures.value in
    let value : has c.union-set.result m ≡ (has by m || has (set_at old at) m) = ap (λ (t : OperationSet). has t m) (c.union-set.ensures.both ∙ ap (both by) set) ∙ has-both by (set_at old at) m in
    let put = rw c.new.ensures at (c.in_ok-put.ensures n) in
    let more = rw is at (put_has old c.put.new.items.items c.union-set.result at n m (has by m) put value) in
    let before = rw (drop_more row k 0 c.loop-place-test.true) at (c.loop-place.invariant n m) in
    uses_more (eqb n (slice_index numbers (get_or row k 0))) (is_number_among numbers n (drop (k + 1) row)) (has by m) (has (set_at old n) m) _ _ more before
