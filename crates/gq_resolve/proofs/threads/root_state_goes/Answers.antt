use denote.Param.Send.{sendable}
use Rattle.std.proofs.Crossing.{crosses}
use Rattle.gq_resolve.proofs.Crossing.{state_send}
use Rattle.gq_resolve.proofs.threads.root_state_goes.Goals as goal

pub goes-requires-send-T : goal.goes-requires-send-T
goes-requires-send-T c κs = search (sendable, crosses, state_send) depth 20
