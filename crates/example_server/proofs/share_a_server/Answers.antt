use denote.Param.Send.{sendable}
use Rattle.std.proofs.Crossing.{crosses}
use Rattle.server.proofs.Crossing.{server_sync}
use Rattle.example_server.proofs.share_a_server.Goals as goal

pub join-theirs-requires-send-F : goal.join-theirs-requires-send-F
join-theirs-requires-send-F g c κs within = search (sendable, crosses, server_sync) depth 20
