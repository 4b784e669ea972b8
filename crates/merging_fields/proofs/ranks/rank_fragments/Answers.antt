use Rattle.std.proofs.Common.{◌≡◌, ap, subst, ◌≤◌, List, Bool, length, arith}
use Rattle.rules_spreads.specs.SpreadReaches.{IsMarked}
use Rattle.merging_fields.proofs.Ordering.{part-all, levels-more, levels-all}
use Rattle.merging_fields.proofs.ranks.rank_fragments.Goals as goal

pub returns-then-are_all_marked : goal.returns-then-are_all_marked
returns-then-are_all_marked c =
    let g = c.args.graph.now in
    let marks = c.loop.taken.items in
    let taken : c.deref.result.now ≡ marks = c.deref.ensures.value in
    let len = c.loop.invariant.part.len in
    let many = ap length taken in
    part-all g c.loop.order.items marks c.loop.invariant.part
    (λ x lt. subst (λ (ms : List Bool). IsMarked ms x) taken (c.are_all_marked.ensures c.if-are_all_marked.true x (omega (arith, lt, len, many))))

pub loop-preserved : goal.loop-preserved
loop-preserved c = record {
  part = c.in_ok-take_all.ensures.part;
  levels = levels-more c.args.graph.now c.loop.taken.items c.take_all.new.taken.items c.loop.counter c.requires.free c.loop.invariant.levels c.in_ok-take_all.ensures.taken;
}

pub returns : goal.returns
returns c =
    let g = c.args.graph.now in
    let marks = c.loop.taken.items in
    let past = c.loop-test.false in
    let end = c.len-end.ensures in
    let le : length g.fragments ≤ c.loop.counter = omega (arith, past, end) in
    part-all g c.loop.order.items marks c.loop.invariant.part (levels-all g marks c.loop.counter c.requires.free le c.loop.invariant.levels)
