use denote.Param.Send.{sendable}
use Rattle.std.proofs.Crossing.{crosses}
use Rattle.rounds_by_hand.proofs.handed_in.HandedIn.TheSendSync as handed_in
use Rattle.server.proofs.Crossing.{by_hand_send}
use Rattle.example_server.proofs.on_another_thread.Goals as goal

pub spawn-requires-send-F : goal.spawn-requires-send-F
spawn-requires-send-F g c κs within = search (sendable, crosses, by_hand_send, handed_in.the_send) depth 20
