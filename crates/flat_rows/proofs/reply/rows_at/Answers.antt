use Rattle.std.proofs.Common.{[], arith}
use Rattle.load_memory.specs.Rows.{paired}
use Rattle.flat_rows.proofs.ReplyLaws.{map-next}
use Rattle.flat_rows.proofs.reply.rows_at.Goals as goal

pub loop-i-preserved : goal.loop-i-preserved
loop-i-preserved c =
    let sheet = c.args.sheet.now.value in
    let next = map-next (paired sheet.names) c.args.at c.loop-i.i sheet.rows [] (omega (arith, c.requires, c.loop-i-test.true)) in
    rw (c.in_ok-push.ensures.items, c.loop-i.invariant, c.in_ok-of_sheet-2.ensures) next
