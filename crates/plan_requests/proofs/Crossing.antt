-- What is kept of the documents of requests may go to other threads, if servers and prepared documents may. Assumes nothing.
use denote.Param.Send.{IsSend, sendable}
use denote.Param.SendFields.{declared_send}
use Rattle.gq_check.specs.contracts.prepared_document.PreparedDocument as kept
use Rattle.plan_requests.specs.contracts.document_cache.DocumentCache as documents
use Rattle.plan_requests.specs.contracts.document_cache.DocumentCache.TheInside as inside
use Rattle.plan_requests.specs.contracts.server.Server as server
use Rattle.text_cache.proofs.cache.TextCache.TheSendSync as texts

inside_send : IsSend server.the_row → IsSend kept.the_row → IsSend inside.the_row
inside_send s k = declared_send inside.the_type (s, (search (sendable, texts.the_send, k) depth 20, tt))

pub documents_send : IsSend server.the_row → IsSend kept.the_row → IsSend documents.the_row
documents_send s k = let i = inside_send s k in record { owned = λ d vs x. (i.owned x.0 vs, tt); leaving = λ k d w. tt }
