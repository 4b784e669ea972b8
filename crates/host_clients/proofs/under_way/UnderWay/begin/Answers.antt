use Rattle.host_clients.proofs.Underway.{begun-with, holds-begun}
use Rattle.host_clients.proofs.under_way.UnderWay.begin.Goals as goal

pub invariant_of-result : goal.invariant_of-result
invariant_of-result c =
    let parts = c.into_parts-client in
    holds-begun c.by_hand.result parts.result.0 c.args.queries.value c.args.planned c.args.note.asked parts.result.1 c.by_hand.ensures parts.ensures.none (rw parts.ensures.client c.requires.plans)

pub returns-clause-begun : goal.returns-clause-begun
returns-clause-begun c =
    let parts = c.into_parts-client in
    begun-with c.by_hand.result parts.result.0 c.args.queries.value c.args.planned c.args.note.asked c.by_hand.ensures (rw parts.ensures.client c.requires.plans)
