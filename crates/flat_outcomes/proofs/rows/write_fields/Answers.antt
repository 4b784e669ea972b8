use Rattle.std.proofs.Common.{◌≤◌, ◌<◌, ◌∙◌, length, arith}
use Rattle.std.proofs.lemmas.List.{take_all}
use Rattle.flat_outcomes.proofs.Adding.{parts-next}
use Rattle.flat_outcomes.proofs.rows.write_fields.Goals as goal

pub loop-column-preserved : goal.loop-column-preserved
loop-column-preserved c =
    let row = c.args.row.now in let at = c.loop-column.column in
    let lt : at < length row = omega (arith, c.loop-column-test.true, c.width-column-end.ensures) in
    c.in_ok-push.ensures.ok ∙ parts-next (λ pair. pair.1) row at c.field.result.now lt c.field.ensures _ _ c.loop-column.invariant

pub returns : goal.returns
returns c =
    let end : length c.args.row.now ≤ c.loop-column.column = omega (arith, c.loop-column-test.false, c.width-column-end.ensures) in
    rw (← take_all c.loop-column.column c.args.row.now end) c.loop-column.invariant
