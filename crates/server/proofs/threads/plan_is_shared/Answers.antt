use denote.Param.Send.{sendable}
use Rattle.std.proofs.Crossing.{crosses}
use Rattle.gq_resolve.proofs.PlanCrossing.{plan_sync}
use Rattle.server.proofs.threads.plan_is_shared.Goals as goal

pub is_shared-requires-sync-T : goal.is_shared-requires-sync-T
is_shared-requires-sync-T c κs = search (sendable, crosses, plan_sync) depth 20
