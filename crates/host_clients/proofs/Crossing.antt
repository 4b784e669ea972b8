-- A client that another language runs names no thread, and so what a handle holds: in steps, as in the `Crossing` of `server`.
-- `object_send` is for the crate of exports. Assumes nothing.
use denote.Param.Send.{IsSend, sendable}
use denote.Param.SendFields.{declared_send, variants_send, VariantsHave}
use Rattle.std.proofs.Crossing as over
use Rattle.load_rounds.proofs.keys.KeysToLoad.TheSendSync as keys_cross
use Rattle.rounds_by_hand.proofs.hand.Hand.TheSendSync as hand_crosses
use Rattle.server.proofs.Crossing.{by_hand_send as request_by_hand_send, client_send, queries_send, server_send}
use Rattle.server.specs.contracts.client.ClientSession as session
use Rattle.server.specs.contracts.load_by_hand.LoadByHand as by_hand
use Rattle.server.specs.contracts.load_by_hand.LoadByHand.TheInside as by_hand_inside
use Rattle.rounds_by_hand.proofs.handed_in.HandedIn.TheSendSync as handed_in_crosses
use Rattle.rounds_by_hand.specs.contracts.handed_in.HandedIn as handed_in
use Rattle.flat_orders.proofs.orders.FlatOrders.TheSendSync as orders_cross
use Rattle.flat_outcomes.proofs.outcomes.FlatOutcomes.TheSendSync as outcomes_cross
use Rattle.host_clients.specs.contracts.answered.AnsweredClient as answered
use Rattle.host_clients.specs.contracts.answered.AnsweredClient.TheInside as answered_inside
use Rattle.host_clients.specs.contracts.client.HostClient as client
use Rattle.host_clients.specs.contracts.idle.IdleClient as idle
use Rattle.host_clients.specs.contracts.idle.IdleClient.TheInside as idle_inside
use Rattle.host_clients.specs.contracts.loaded.LoadedClient as loaded
use Rattle.host_clients.specs.contracts.loaded.LoadedClient.TheInside as loaded_inside
use Rattle.host_clients.specs.contracts.loading.LoadUnderWay as loading
use Rattle.host_clients.specs.contracts.loading.LoadUnderWay.TheInside as loading_inside
use Rattle.host_clients.proofs.note.AskedNote.TheSendSync as note_crosses
use Rattle.host_clients.specs.contracts.object.Object as object
use Rattle.host_clients.specs.contracts.under_way.UnderWay as under_way
use Rattle.host_clients.specs.contracts.under_way.UnderWay.TheInside as under_way_inside

session_send : IsSend (session.the_row handed_in.the_row)
session_send = client_send handed_in.the_row handed_in_crosses.the_send

idle_inside_send : IsSend idle_inside.the_row
idle_inside_send = declared_send idle_inside.the_type (session_send, (orders_cross.the_send, tt))

idle_send : IsSend idle.the_row
idle_send = let i = idle_inside_send in record { owned = λ d vs x. (i.owned x.0 vs, tt); leaving = λ k d w. tt }

answered_inside_send : IsSend answered_inside.the_row
answered_inside_send = declared_send answered_inside.the_type (idle_send, (search (over.crosses, sendable) depth 20, (search sendable depth 20, (note_crosses.the_send, (search (over.crosses, sendable) depth 20, tt)))))

answered_send : IsSend answered.the_row
answered_send = let i = answered_inside_send in record { owned = λ d vs x. (i.owned x.0 vs, tt); leaving = λ k d w. tt }

under_way_inside_send : IsSend under_way_inside.the_row
under_way_inside_send = declared_send under_way_inside.the_type (request_by_hand_send handed_in.the_row handed_in_crosses.the_send, (orders_cross.the_send, (note_crosses.the_send, (search (over.crosses, sendable) depth 20, tt))))

under_way_send : IsSend under_way.the_row
under_way_send = let i = under_way_inside_send in record { owned = λ d vs x. (i.owned x.0 vs, tt); leaving = λ k d w. tt }

by_hand_inside_send : IsSend (by_hand_inside.the_row handed_in.the_row)
by_hand_inside_send =
    declared_send (by_hand_inside.the_type handed_in.the_row)
    (search sendable depth 20, (search queries_send, (search sendable depth 20, (search (over.crosses, sendable) depth 20, (keys_cross.the_send, (search (hand_crosses.the_send, keys_cross.the_send, sendable, handed_in_crosses.the_send) depth 20, tt))))))

by_hand_send : IsSend (by_hand.the_row handed_in.the_row)
by_hand_send = let i = by_hand_inside_send in record { owned = λ d vs x. (i.owned x.0 vs, tt); leaving = λ k d w. tt }

loading_inside_send : IsSend loading_inside.the_row
loading_inside_send = declared_send loading_inside.the_type (by_hand_send, (orders_cross.the_send, tt))

loading_send : IsSend loading.the_row
loading_send = let i = loading_inside_send in record { owned = λ d vs x. (i.owned x.0 vs, tt); leaving = λ k d w. tt }

loaded_inside_send : IsSend loaded_inside.the_row
loaded_inside_send = declared_send loaded_inside.the_type (idle_send, (outcomes_cross.the_send, (search (over.crosses, sendable) depth 20, tt)))

loaded_send : IsSend loaded.the_row
loaded_send = let i = loaded_inside_send in record { owned = λ d vs x. (i.owned x.0 vs, tt); leaving = λ k d w. tt }

held_client_send : IsSend client.the_row
held_client_send = search (over.crosses, sendable, idle_send, under_way_send, answered_send, loading_send, loaded_send) depth 20

variants : VariantsHave IsSend object.the_type.parts
variants = ((server_send, tt), ((held_client_send, tt), ((search queries_send, tt), tt)))

-- the parts say all of the record
pub object_send : IsSend object.the_row
object_send = variants_send (record { name = _; args = _; types = _; parts = object.the_type.parts; D = _; as_values = _; make = _; eta = _; beta = _ }) variants
