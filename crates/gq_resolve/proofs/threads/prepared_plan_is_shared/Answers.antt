use denote.Param.Send.{sendable}
use Rattle.std.proofs.Crossing.{crosses}
use Rattle.gq_resolve.proofs.Crossing.{prepared_sync}
use Rattle.gq_resolve.proofs.threads.prepared_plan_is_shared.Goals as goal

pub is_shared-requires-sync-T : goal.is_shared-requires-sync-T
is_shared-requires-sync-T c κs = search (sendable, crosses, prepared_sync) depth 20
