use denote.Param.Send.{sendable}
use Rattle.std.proofs.Crossing.{crosses}
use Rattle.gq_resolve.proofs.PlanCrossing.{plan_send}
use Rattle.server.proofs.threads.plan_goes.Goals as goal

pub goes-requires-send-T : goal.goes-requires-send-T
goes-requires-send-T c κs = search (sendable, crosses, plan_send) depth 20
