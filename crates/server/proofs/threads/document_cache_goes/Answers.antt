use denote.Param.Send.{sendable}
use Rattle.std.proofs.Crossing.{crosses}
use Rattle.server.proofs.Crossing.{documents_send}
use Rattle.server.proofs.threads.document_cache_goes.Goals as goal

pub goes-requires-send-T : goal.goes-requires-send-T
goes-requires-send-T c κs = search (sendable, crosses, documents_send) depth 20
