-- Lemmas on a plan may go to other threads, and they may share it, in steps: the prover keeps no such proof of a type that holds one that
-- holds itself, as a schema holds values, and searches through it at each demand. Assumes nothing.
use denote.Param.Send.{IsSend, IsSync, sendable}
use Rattle.std.proofs.Crossing as over
use Rattle.std.proofs.MapsCrossing as maps
use Rattle.short_text.proofs.text.Text.TheSendSync as text
use Rattle.gq_parser.proofs.tree.Selection.TheLaws.TheKnot as selection
use Rattle.gq_parser.proofs.tree.TypeRef.TheLaws.TheKnot as type_ref
use Rattle.gq_parser.proofs.tree.Value.TheLaws.TheKnot as value
use Rattle.gq_parser.specs.contracts.tree.Fragment as fragment
use Rattle.gq_parser.specs.contracts.tree.Operation as operation
use Rattle.gq_schema.proofs.input.Input.TheLaws.TheKnot as input
use Rattle.gq_schema.specs.contracts.schema.Schema as schema
use Rattle.gq_bindings.proofs.read.Bindings.TheSendSync as bindings_cross
use Rattle.gq_variables.specs.contracts.variable.Variable as variable
use Rattle.gq_check.specs.contracts.plan.Plan as plan

pub schema_send : IsSend schema.the_row
schema_send = search (over.crosses, maps.crosses, sendable, text.the_send, value.send-Literal, type_ref.send-TypeRef) depth 40 fits 10000

pub schema_sync : IsSync schema.the_row
schema_sync = search (over.crosses, maps.crosses, sendable, text.the_sync, value.sync-Literal, type_ref.sync-TypeRef) depth 40 fits 10000

pub operation_send : IsSend operation.the_row
operation_send = search (over.crosses, sendable, text.the_send, text.the_sync, value.send-Literal, value.sync-Literal, value.send-Argument, value.sync-Argument, type_ref.send-TypeRef, selection.both_send-SelectionSet) depth 40 fits 10000

pub operation_sync : IsSync operation.the_row
operation_sync = search (over.crosses, sendable, text.the_send, text.the_sync, value.send-Literal, value.sync-Literal, value.send-Argument, value.sync-Argument, type_ref.sync-TypeRef, selection.both_sync-SelectionSet) depth 40 fits 10000

pub fragment_send : IsSend fragment.the_row
fragment_send = search (over.crosses, sendable, text.the_send, text.the_sync, value.send-Literal, value.sync-Literal, value.send-Argument, value.sync-Argument, selection.both_send-SelectionSet) depth 40 fits 10000

pub fragment_sync : IsSync fragment.the_row
fragment_sync = search (over.crosses, sendable, text.the_send, text.the_sync, value.send-Literal, value.sync-Literal, value.send-Argument, value.sync-Argument, selection.both_sync-SelectionSet) depth 40 fits 10000

pub variable_send : IsSend variable.the_row
variable_send = search (over.crosses, maps.crosses, sendable, text.the_send, input.send-Input) depth 40 fits 10000

pub variable_sync : IsSync variable.the_row
variable_sync = search (over.crosses, maps.crosses, sendable, text.the_sync, input.sync-Input) depth 40 fits 10000

pub plan_send : IsSend plan.the_row
plan_send = search (over.crosses, maps.crosses, sendable, schema_send, schema_sync, bindings_cross.the_send, bindings_cross.the_sync, operation_send, operation_sync, fragment_send, fragment_sync, variable_send) depth 40 fits 10000

pub plan_sync : IsSync plan.the_row
plan_sync = search (over.crosses, maps.crosses, sendable, schema_send, schema_sync, bindings_cross.the_send, bindings_cross.the_sync, operation_send, operation_sync, fragment_send, fragment_sync, variable_sync) depth 40 fits 10000
