use Rattle.std.proofs.Common.{Ok}
use Rattle.crossbeam_queue.specs.Passes.{view, IsPassOf}
use Rattle.batch_workers.specs.Work.{Worked}
use Rattle.batch_workers.proofs.round.work.Given as goal

abbrev pub invariant-loop : goal.invariant-loop
invariant-loop g l = IsPassOf l.bench.desk.now l.worker × Worked g.S.Source.may_answer l.bench.loaders.now l.bench.shelf.now (view l.fn.worker) (view l.worker) (Ok l.receipts)
