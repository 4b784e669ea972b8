use denote.Param.Send.{sendable}
use Rattle.std.proofs.Crossing.{crosses}
use Rattle.server.proofs.Crossing.{queries_send}
use Rattle.server.proofs.threads.queries_go.Goals as goal

pub goes-requires-send-T : goal.goes-requires-send-T
goes-requires-send-T c κs = search (sendable, crosses, queries_send) depth 20
