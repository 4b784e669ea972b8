-- Lemmas on what may go to other threads, and what they may share, in steps: the prover keeps no such proof of a type that holds one that
-- holds itself, as a schema holds values, and searches through it at each demand. `server_send`, `server_sync` and `client_send` are for
-- those who start threads. Assumes nothing.
use denote.RattleType.{RattleType}
use denote.Param.Send.{IsSend, IsSync, sendable}
use denote.Param.SendFields.{declared_send}
use Rattle.std.proofs.Crossing as over
use Rattle.std.proofs.MapsCrossing as maps
use Rattle.gq_bindings.proofs.read.Bindings.TheSendSync as bindings_cross
use Rattle.gq_check.specs.contracts.prepared_document.PreparedDocument as kept
use Rattle.plan_requests.specs.contracts.server.Server as server
use Rattle.plan_requests.proofs.Crossing as kept_documents
use Rattle.plan_requests.specs.contracts.document_cache.DocumentCache as documents
use Rattle.server.specs.contracts.request_cache.RequestCache as request_cache
use Rattle.server.specs.contracts.request_cache.RequestCache.TheInside as cache_inside
use Rattle.short_list.proofs.list.ShortList.TheSendSync as short_list
use Rattle.text_cache.proofs.cache.TextCache.TheSendSync as texts
use Rattle.gq_check.specs.contracts.checked.CheckedDocument as checked
use Rattle.gq_resolve.specs.contracts.limited_plan.LimitedPlan as limited
use Rattle.gq_resolve.specs.contracts.root_state.RootState as state
use Rattle.gq_resolve.proofs.Crossing.{limited_send, prepared_send, prepared_sync, state_send}
use Rattle.gq_resolve.proofs.PlanCrossing.{fragment_send, fragment_sync, operation_send, operation_sync, schema_send, schema_sync}
use Rattle.load_rounds.proofs.session.Session.TheSendSync as session
use Rattle.rounds_by_hand.proofs.hand.Hand.TheSendSync as hand
use Rattle.request_line.specs.contracts.reader.LineReader as reader
use Rattle.serde_json.proofs.value.Value.TheLaws.TheKnot as json
use Rattle.server.specs.contracts.by_hand.ByHand as by_hand
use Rattle.server.specs.contracts.by_hand.ByHand.TheInside as by_hand_inside
use Rattle.server.specs.contracts.client.ClientSession as client
use Rattle.server.specs.contracts.client.ClientSession.TheInside as inside
use Rattle.server.specs.contracts.planned.PlannedRequest as planned
use Rattle.server.specs.contracts.planned.PlannedRequest.TheInside as planned_inside
use Rattle.server.specs.contracts.planned.ResponseForm as form
use Rattle.server.specs.contracts.queries.KeptQueries as kept_queries
use Rattle.server.specs.contracts.queries.Queries as queries
use Rattle.server.specs.contracts.queries.Queries.TheInside as queries_inside

pub server_send : IsSend server.the_row
server_send = search (over.crosses, sendable, schema_send, schema_sync, bindings_cross.the_send, bindings_cross.the_sync) depth 20

pub server_sync : IsSync server.the_row
server_sync = search (over.crosses, sendable, schema_send, schema_sync, bindings_cross.the_send, bindings_cross.the_sync) depth 20

pub checked_send : IsSend checked.the_row
checked_send = search (over.crosses, sendable, schema_send, schema_sync, operation_send, fragment_send) depth 20

pub kept_send : IsSend kept.the_row
kept_send = search (over.crosses, maps.crosses, sendable, schema_send, schema_sync, operation_send, operation_sync, fragment_send, fragment_sync) depth 40 fits 10000

pub kept_sync : IsSync kept.the_row
kept_sync = search (over.crosses, maps.crosses, sendable, schema_send, schema_sync, operation_send, operation_sync, fragment_send, fragment_sync) depth 40 fits 10000

pub documents_send : IsSend documents.the_row
documents_send = kept_documents.documents_send server_send kept_send

request_cache_inside_send : IsSend cache_inside.the_row
request_cache_inside_send = declared_send cache_inside.the_type (documents_send, (search (over.crosses, sendable, texts.the_send, prepared_send, prepared_sync) depth 20, (search (over.crosses, sendable) depth 20, tt)))

pub request_cache_send : IsSend request_cache.the_row
request_cache_send = let i = request_cache_inside_send in record { owned = λ d vs x. (i.owned x.0 vs, tt); leaving = λ k d w. tt }

pub reader_send : IsSend reader.the_row
reader_send = search (over.crosses, maps.crosses, sendable, json.send-Value) depth 40 fits 10000

kept_queries_send : IsSend kept_queries.the_row
kept_queries_send = declared_send kept_queries.the_type (reader_send, (request_cache_send, tt))

queries_inside_send : IsSend queries_inside.the_row
queries_inside_send = declared_send queries_inside.the_type (server_send, (search (over.crosses, sendable, kept_queries_send) depth 20, tt))

pub queries_send : IsSend queries.the_row
queries_send = let i = queries_inside_send in record { owned = λ d vs x. (i.owned x.0 vs, tt); leaving = λ k d w. tt }

form_send : IsSend form.the_row
form_send = search (over.crosses, sendable, short_list.the_send) depth 20

planned_inside_send : IsSend planned_inside.the_row
planned_inside_send = declared_send planned_inside.the_type (form_send, (search (over.crosses, sendable, limited_send) depth 20, (search sendable depth 20, tt)))

pub planned_send : IsSend planned.the_row
planned_send = let i = planned_inside_send in record { owned = λ d vs x. (i.owned x.0 vs, tt); leaving = λ k d w. tt }

pub inside_send : (S : RattleType) → IsSend S → IsSend (inside.the_row S)
inside_send S s = declared_send (inside.the_type S) (search sendable depth 20, (queries_send, (search (session.the_send, sendable, s) depth 20, (search sendable depth 20, (search (over.crosses, sendable) depth 20, tt)))))

pub client_send : (S : RattleType) → IsSend S → IsSend (client.the_row S)
client_send S s = let i = inside_send S s in record { owned = λ d vs x. (i.owned x.0 vs, tt); leaving = λ k d w. tt }

module _ (S : RattleType) (s : IsSend S) where
  by_hand_inside_send : IsSend (by_hand_inside.the_row S)
  by_hand_inside_send =
      declared_send (by_hand_inside.the_type S) (
        search sendable depth 20,
        (queries_send, (search sendable depth 20, (search (over.crosses, sendable) depth 20, (form_send, (search sendable depth 20, (search sendable depth 20, (hand.the_send S limited.the_row state.the_row s limited_send state_send, tt))))))),
      )

  pub by_hand_send : IsSend (by_hand.the_row S)
  by_hand_send = let i = by_hand_inside_send in record { owned = λ d vs x. (i.owned x.0 vs, tt); leaving = λ k d w. tt }
