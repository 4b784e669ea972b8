use Rattle.std.proofs.Common.{◌∙◌, ◌<◌, [], length, arith}
use Rattle.std.proofs.lemmas.List.{get_or_default}
use Rattle.rules_parts.specs.declared.part.Owner.TheVariants as owner
use Rattle.rules_spreads.specs.Graphs.{row}
use Rattle.rules_spreads.specs.SpreadReaches.{Visits}
use Rattle.rules_spreads.proofs.ReachLaws.{row-below}
use Rattle.rules_spreads.proofs.WalkLaws.{below-more, follow-starts, follow-goes, follow-ends}
use Rattle.rules_spreads.proofs.spread_reach.follow.Goals as goal

pub visit-requires : goal.visit-requires
visit-requires c = rw c.row.ensures.row (below-more _ _ (row c.args.graph.now c.args.owner) c.requires.room (row-below c.args.graph.now c.args.owner c.row.ensures.known))

pub loop-next-init : goal.loop-next-init
loop-next-init c =
    let v : Visits c.args.marks.now.items c.visit.new.marks.items [] c.visit.new.reached.items (row c.args.graph.now c.args.owner) = rw (c.requires.empty, c.row.ensures.row) at c.in_ok-visit.ensures.visits in
    follow-starts c.args.graph.now c.args.owner c.args.marks.now.items c.visit.new.marks.items c.visit.new.reached.items c.requires.room c.requires.clear v

pub visit-requires-in-loop-next : goal.visit-requires-in-loop-next
visit-requires-in-loop-next c =
    rw c.row-in-loop-next.ensures.row (below-more _ _ (row c.args.graph.now (owner.Fragment c.index.result.now)) c.loop-next.invariant.room (row-below c.args.graph.now (owner.Fragment c.index.result.now) c.row.ensures.known))

pub loop-next-preserved : goal.loop-next-preserved
loop-next-preserved c =
    let lt : c.loop-next.next < length c.loop-next.reached.items = omega arith in
    let x = c.index.result.now in
    let v : Visits c.loop-next.marks.items c.visit-in-loop-next.new.marks.items c.loop-next.reached.items c.visit-in-loop-next.new.reached.items (row c.args.graph.now (owner.Fragment x)) = rw c.row-in-loop-next.ensures.row at c.in_ok-visit-2.ensures.visits in
    follow-goes c.args.graph.now c.args.owner c.loop-next.marks.items c.visit-in-loop-next.new.marks.items c.loop-next.reached.items c.visit-in-loop-next.new.reached.items c.loop-next.next x (c.index.ensures ∙ get_or_default c.loop-next.reached.items c.loop-next.next x 0 lt) lt c.loop-next.invariant v

pub returns-clause-reached : goal.returns-clause-reached
returns-clause-reached c =
    follow-ends c.args.graph.now c.args.owner c.loop-next.marks.items c.loop-next.reached.items c.loop-next.next c.row.ensures.known (omega arith) c.loop-next.invariant
