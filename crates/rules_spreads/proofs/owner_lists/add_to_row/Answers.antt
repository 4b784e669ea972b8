use Rattle.std.proofs.Common.{◌∙◌, ◌++◌, ◌∷◌, [], ap, ℕ, Vec, arith}
use Rattle.std.specs.declared.alloc.Global.{Global}
use Rattle.rules_spreads.proofs.GrowLaws.{row_at-pad, row_at-put}
use Rattle.rules_spreads.proofs.owner_lists.add_to_row.Goals as goal

pub loop-alloc-preserved : goal.loop-alloc-preserved
loop-alloc-preserved c = λ i.
    rw c.in_ok-push.ensures.items (row_at-pad c.loop-alloc.rows.items c.new.result i c.new.ensures.items ∙ c.loop-alloc.invariant i)

pub returns : goal.returns
returns c = λ i.
    let longer = c.in_ok-push-2.ensures.items ∙ ap (λ (v : Vec ℕ Global). v.items ++ c.args.number ∷ []) c.index_mut.ensures.value in
    rw (← c.loop-alloc.invariant i) (row_at-put c.loop-alloc.rows.items c.args.row i c.push-2.new.self c.index_mut.result.now c.args.number (omega (arith, c.loop-alloc.rows.ok.0)) longer)
