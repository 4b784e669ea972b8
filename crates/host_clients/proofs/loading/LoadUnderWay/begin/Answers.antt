use Rattle.host_clients.proofs.Underway.{holds-load-begun}
use Rattle.host_clients.proofs.loading.LoadUnderWay.begin.Goals as goal

pub invariant_of-result : goal.invariant_of-result
invariant_of-result c =
    let parts = c.into_parts-client in holds-load-begun c.load_by_hand.result parts.result.0 c.args.planned parts.result.1 c.load_by_hand.ensures parts.ensures.none
