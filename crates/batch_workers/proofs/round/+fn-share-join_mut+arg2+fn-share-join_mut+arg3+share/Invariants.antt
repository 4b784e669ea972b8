use Rattle.batch_workers.proofs.round.+fn-share-join_mut+arg2+fn-share-join_mut+arg3+share.Given as goal

abbrev pub decreases-join_mut+arg2 : goal.decreases-join_mut+arg2
decreases-join_mut+arg2 g l = l.rest

abbrev pub decreases-join_mut+arg3 : goal.decreases-join_mut+arg3
decreases-join_mut+arg3 g l = l.half

abbrev pub decreases-share : goal.decreases-share
decreases-share g l = l.workers
