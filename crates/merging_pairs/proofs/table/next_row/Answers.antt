use Rattle.std.proofs.Common.{ℕ, Bool, true, false}
use Rattle.merging_pairs.specs.Recursions.{TestsFields}
use Rattle.merging_pairs.proofs.TableLaws.{row-more, row-same}
use Rattle.merging_pairs.proofs.table.next_row.Goals as goal
use Rattle.merging_pairs.proofs.table.next_row.Goals.{then-pair_fails, else-pair_fails}

pub loop-a-preserved : goal.loop-a-preserved
loop-a-preserved c =
    let P : ℕ → Bool → Type 0 = λ k t. TestsFields c.args.recursion.now c.args.marks.now c.args.inner.now k c.args.b t in
    elim c.if-pair_fails.branch [
      | then-pair_fails w ↦
          let here : P c.loop-a.a true = rw w.if-pair_fails.true at c.pair_fails.ensures in
          let r = row-more P c.loop-a.row w.insert.new.self c.loop-a.a w.insert.ensures c.loop-a.invariant.below c.loop-a.invariant.each here in
          rw w.row-is (record { below = r.0; each = r.1 })
      | else-pair_fails w ↦
          let here : P c.loop-a.a false = rw w.if-pair_fails.false at c.pair_fails.ensures in
          let r = row-same P c.loop-a.row c.loop-a.a c.loop-a.invariant.below c.loop-a.invariant.each here in
          rw w.row-is (record { below = r.0; each = r.1 })
    ]
