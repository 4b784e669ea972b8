use denote.Param.Send.{sendable}
use Rattle.std.proofs.Crossing.{crosses}
use Rattle.gq_resolve.proofs.Crossing.{limited_send}
use Rattle.gq_resolve.proofs.threads.limited_plan_goes.Goals as goal

pub goes-requires-send-T : goal.goes-requires-send-T
goes-requires-send-T c κs = search (sendable, crosses, limited_send) depth 20
