use Rattle.std.proofs.Common.{◌<◌, ◌≤◌, length, arith}
use Rattle.flat_orders.proofs.Writing.{count-within, count-past}
use Rattle.flat_orders.proofs.lists.KeyLists.count.Goals as goal

pub returns-then-number-len : goal.returns-then-number-len
returns-then-number-len c =
    let i = c.self.inside in
    let lt : c.args.number < length i.counts.items = omega (arith, c.if-number-len.true, c.len.ensures, i.counts.ok.0) in
    rw (← c.self.view_is) (count-within i.counts.items _ c.args.number c.self.invariant.counts_are _ lt c.index.ensures)

pub returns-else-number-len : goal.returns-else-number-len
returns-else-number-len c =
    let i = c.self.inside in
    let past : length i.counts.items ≤ c.args.number = omega (arith, c.if-number-len.false, c.len.ensures, i.counts.ok.0) in
    rw (← c.self.view_is) (count-past i.counts.items _ c.args.number c.self.invariant.counts_are past)
