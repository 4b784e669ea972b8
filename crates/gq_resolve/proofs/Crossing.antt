-- Lemmas on what is prepared of a plan, and an execution of it, may go to other threads, and they may share what is prepared. In steps: the
-- prover searches through a set of selections at each demand, since it holds fields that hold sets. `prepared_send`, `prepared_sync` and
-- `state_send` are for what owns them. Assumes nothing.
use denote.Param.Send.{IsSend, IsSync, sendable}
use denote.Param.SendFields.{declared_send, declared_sync}
use Rattle.std.proofs.Crossing as heap
use Rattle.short_text.proofs.text.Text.TheSendSync as text
use Rattle.load_memory.proofs.key.Key.TheSendSync as key
use Rattle.load_memory.proofs.row.Row.TheSendSync as row
use Rattle.gq_parser.proofs.tree.Selection.TheLaws.TheKnot as selection
use Rattle.gq_parser.proofs.tree.Value.TheLaws.TheKnot as value
use Rattle.gq_parser.specs.contracts.tree.SelectionSet as set
use Rattle.plan_program.proofs.prepared.KeyFrom.TheSendSync as key_from
use Rattle.plan_program.proofs.prepared.LeafValue.TheSendSync as leaf
use Rattle.plan_program.specs.contracts.prepared.Children as children
use Rattle.plan_walk.proofs.loading_fields.RowUse.TheSendSync as then
use Rattle.plan_walk.proofs.waiting.Waiting.TheSendSync as waiting
use Rattle.plan_walk.specs.contracts.loading_fields.FieldResolver as asks
use Rattle.plan_walk.specs.contracts.loading_fields.Member as member
use Rattle.plan_walk.specs.contracts.loading_fields.TypePositions as shape
use Rattle.plan_walk.specs.contracts.loading_fields.LoadingField as group
use Rattle.gq_resolve.specs.contracts.bounded.BoundedErrors as errors
use Rattle.gq_resolve.specs.contracts.bounded.BoundedText as bounded
use Rattle.gq_resolve.specs.contracts.completed_text.CompletedText as completed
use Rattle.gq_resolve.specs.contracts.completed_text.OpenLevel as level
use Rattle.gq_resolve.specs.contracts.pausing.Pausing as pausing
use Rattle.gq_resolve.specs.contracts.paused_walk.PausedWalk as paused
use Rattle.gq_resolve.specs.contracts.stepped_output.SteppedOutput as stepped
use Rattle.gq_resolve.specs.contracts.work.WorkLeft as work
use Rattle.gq_resolve.specs.contracts.work.WorkCount as count
use Rattle.gq_resolve.specs.contracts.advance.RootObject as rooted
use Rattle.gq_resolve.specs.contracts.advance.Suspension as stopped
use Rattle.gq_resolve.specs.contracts.answer_ahead.AnswerAhead as ahead
use Rattle.gq_resolve.specs.contracts.limited_plan.LimitedPlan as limited
use Rattle.gq_resolve.specs.contracts.prepared_plan.PreparedPlan as prepared
use Rattle.gq_resolve.specs.contracts.prepared_plan.PreparedPlan.TheInside as inside
use Rattle.gq_resolve.specs.contracts.root_state.RootState as state
use Rattle.gq_resolve.proofs.PlanCrossing.{plan_send, plan_sync}

set_send : IsSend set.the_row
set_send = search (heap.crosses, sendable, text.the_send, text.the_sync, value.send-Literal, value.sync-Literal, value.send-Argument, value.sync-Argument, selection.both_send-SelectionSet) depth 40 fits 10000

set_sync : IsSync set.the_row
set_sync = search (heap.crosses, sendable, text.the_send, text.the_sync, value.send-Literal, value.sync-Literal, value.send-Argument, value.sync-Argument, selection.both_sync-SelectionSet) depth 40 fits 10000

children_send : IsSend children.the_row
children_send = declared_send children.the_type (search (sendable, text.the_send) depth 20, (search sendable depth 20, (search sendable depth 20, (search (heap.crosses, sendable, set_send, set_sync) depth 40 fits 10000, tt))))

children_sync : IsSync children.the_row
children_sync = declared_sync children.the_type (search (sendable, text.the_sync) depth 20, (search sendable depth 20, (search sendable depth 20, (search (heap.crosses, sendable, set_send, set_sync) depth 40 fits 10000, tt))))

asks_send : IsSend asks.the_row
asks_send = search (heap.crosses, sendable, text.the_send, leaf.the_field_send, key_from.the_field_send, key.the_send) depth 20

asks_sync : IsSync asks.the_row
asks_sync = search (heap.crosses, sendable, text.the_sync, leaf.the_field_sync, key_from.the_field_sync, key.the_sync) depth 20

member_send : IsSend member.the_row
member_send = declared_send member.the_type (search (sendable, text.the_send) depth 20, (asks_send, tt))

member_sync : IsSync member.the_row
member_sync = declared_sync member.the_type (search (sendable, text.the_sync) depth 20, (asks_sync, tt))

shape_send : IsSend shape.the_row
shape_send = search (heap.crosses, sendable, text.the_send, member_send, member_sync) depth 20

shape_sync : IsSync shape.the_row
shape_sync = search (heap.crosses, sendable, text.the_sync, member_send, member_sync) depth 20

group_send : IsSend group.the_row
group_send = search (heap.crosses, sendable, then.the_field_send, children_send, children_sync, shape_send) depth 20

group_sync : IsSync group.the_row
group_sync = search (heap.crosses, sendable, then.the_field_sync, children_send, children_sync, shape_sync) depth 20

rooted_send : IsSend rooted.the_row
rooted_send = search (heap.crosses, sendable, row.the_send, member_send, member_sync, group_send) depth 20

rooted_sync : IsSync rooted.the_row
rooted_sync = search (heap.crosses, sendable, row.the_sync, member_send, member_sync, group_sync) depth 20

inside_send : IsSend inside.the_row
inside_send = declared_send inside.the_type (plan_send, (search (heap.crosses, sendable, rooted_send) depth 20, tt))

inside_sync : IsSync inside.the_row
inside_sync = declared_sync inside.the_type (plan_sync, (search (heap.crosses, sendable, rooted_sync) depth 20, tt))

pub prepared_send : IsSend prepared.the_row
prepared_send = let i = inside_send in record { owned = λ d vs x. (i.owned x.0 vs, tt); leaving = λ k d w. tt }

pub prepared_sync : IsSync prepared.the_row
prepared_sync = let i = inside_sync in record { shared = λ d b o κ x. (i.shared x.0 b o κ, tt) }

stopped_send : IsSend stopped.the_row
stopped_send = declared_send stopped.the_type (rooted_send, (search (sendable, waiting.the_send) depth 20, tt))

bounded_send : IsSend bounded.the_row
bounded_send = search (heap.crosses, sendable) depth 20

errors_send : IsSend errors.the_row
errors_send = search (heap.crosses, sendable) depth 20

level_send : IsSend level.the_row
level_send = search (heap.crosses, sendable) depth 20

completed_send : IsSend completed.the_row
completed_send = declared_send completed.the_type (search (heap.crosses, sendable) depth 20, (search (heap.crosses, sendable, level_send) depth 20, (search (heap.crosses, sendable) depth 20, (search (heap.crosses, sendable) depth 20, (search (heap.crosses, sendable) depth 20, (search (sendable, bounded_send) depth 20, (search (sendable, errors_send) depth 20, (search (heap.crosses, sendable) depth 20, tt))))))))

stepped_send : IsSend stepped.the_row
stepped_send = declared_send stepped.the_type (search (sendable, completed_send) depth 20, (search (heap.crosses, sendable) depth 20, tt))

stepped_pausing_send : IsSend (pausing.the_row stepped.the_row)
stepped_pausing_send = declared_send (pausing.the_type stepped.the_row) (search (sendable, stepped_send) depth 20, (search (heap.crosses, sendable) depth 20, (search (heap.crosses, sendable) depth 20, (search (heap.crosses, sendable) depth 20, (search (heap.crosses, sendable) depth 20, (search (heap.crosses, sendable) depth 20, tt))))))

stepped_walk_send : IsSend (paused.the_row stepped.the_row)
stepped_walk_send = declared_send (paused.the_type stepped.the_row) (rooted_send, (search (sendable, stepped_pausing_send) depth 20, (search (heap.crosses, sendable) depth 20, tt)))

ahead_send : IsSend ahead.the_row
ahead_send = declared_send ahead.the_type (search (sendable, stepped_walk_send) depth 20, (search sendable depth 20, tt))

work_send : IsSend work.the_row
work_send = search (heap.crosses, sendable) depth 20

work_pausing_send : IsSend (pausing.the_row work.the_row)
work_pausing_send = declared_send (pausing.the_type work.the_row) (search (sendable, work_send) depth 20, (search (heap.crosses, sendable) depth 20, (search (heap.crosses, sendable) depth 20, (search (heap.crosses, sendable) depth 20, (search (heap.crosses, sendable) depth 20, (search (heap.crosses, sendable) depth 20, tt))))))

work_walk_send : IsSend (paused.the_row work.the_row)
work_walk_send = declared_send (paused.the_type work.the_row) (rooted_send, (search (sendable, work_pausing_send) depth 20, (search (heap.crosses, sendable) depth 20, tt)))

count_send : IsSend count.the_row
count_send = declared_send count.the_type (search (sendable, work_walk_send) depth 20, tt)

pub state_send : IsSend state.the_row
state_send = search (heap.crosses, sendable, stopped_send, ahead_send, count_send) depth 20

pub limited_send : IsSend limited.the_row
limited_send = search (heap.crosses, sendable, prepared_send, prepared_sync) depth 20
