use Rattle.std.proofs.Common.{arith}
use Rattle.flat_rows.proofs.ReplyLaws.{rows-fault, faults-fault, rows-rows, faults-rows, rows-none, faults-none}
use Rattle.flat_rows.proofs.reply.totals_of.Goals as goal
use Rattle.flat_rows.proofs.reply.totals_of.Goals.{then-count, else-count+in_ok-rows}

pub returns-clause-some : goal.returns-clause-some
returns-clause-some c =
    let now = c.loop-count.invariant in (
      omega (arith, now.rows, rows-none c.args.counts.now c.loop-count.count-index c.loop-count-test.false),
      omega (arith, now.faults, faults-none c.args.counts.now c.loop-count.count-index c.loop-count-test.false),
    )

pub returns-clause-few : goal.returns-clause-few
returns-clause-few c =
    let now = c.loop-count.invariant in
    let none = rows-none c.args.counts.now c.loop-count.count-index c.loop-count-test.false in
    omega (arith, now.rows, none, now.fits)

pub loop-count-preserved : goal.loop-count-preserved
loop-count-preserved c =
    let now = c.loop-count.invariant in let counts = c.args.counts.now in let i = c.loop-count.count-index in let lt = c.loop-count-test.true in
    elim c.if-count.branch [
      | then-count w ↦
          let rows = rows-fault counts i lt w.if-count.true in let faults = faults-fault counts i lt w.if-count.true in
          record { rows = omega (arith, now.rows, rows, w.rows-is); faults = omega (arith, now.faults, faults, w.faults-is); few = omega (arith, now.few, w.faults-is); fits = omega (arith, now.fits, w.rows-is) }
      | else-count+in_ok-rows w ↦
          let rows = rows-rows counts i lt w.if-count.false in let faults = faults-rows counts i lt w.if-count.false in let sum = w.in_ok-rows.ensures.1 in
          record { rows = omega (arith, now.rows, rows, w.rows-is, sum); faults = omega (arith, now.faults, faults, w.faults-is); few = omega (arith, now.few, w.faults-is); fits = omega (arith, sum, w.rows-is, w.in_ok-rows.ensures.0) }
    ]

pub returns-in_err-rows-clause-none : goal.returns-in_err-rows-clause-none
returns-in_err-rows-clause-none c =
    let now = c.loop-count.invariant in
    let rows = rows-rows c.args.counts.now c.loop-count.count-index c.loop-count-test.true c.if-count.false in
    let large = c.in_err-rows.ensures in
    rw c.from_residual.ensures (omega (arith, now.rows, rows, large))
