use Rattle.std.proofs.Common.{[], arith, replicate}
use Rattle.rules_spreads.proofs.RowLaws.{rows-added}
use Rattle.rules_spreads.proofs.graph.empty_rows.Goals as goal

pub loop-preserved : goal.loop-preserved
loop-preserved c =
    rw c.in_ok-push.ensures.items (rows-added c.loop.rows.items c.new.result c.loop.counter c.args.count (replicate c.args.count []) c.new.ensures.items (omega arith) c.loop.invariant)
