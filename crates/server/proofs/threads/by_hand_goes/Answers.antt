use denote.Param.Send.{sendable}
use Rattle.std.proofs.Crossing.{crosses}
use Rattle.server.proofs.Crossing.{by_hand_send}
use Rattle.server.proofs.threads.by_hand_goes.Goals as goal

pub goes-requires-send-T : goal.goes-requires-send-T
goes-requires-send-T g c κs within = search (sendable, crosses, by_hand_send) depth 20
