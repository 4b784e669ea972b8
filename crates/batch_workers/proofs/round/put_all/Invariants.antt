use Rattle.std.proofs.Common.{◌≡◌, []}
use Rattle.crossbeam_queue.specs.Passes.{view, IsPassOf}
use Rattle.batch_workers.specs.Desk.{knowledge}
use Rattle.batch_workers.proofs.round.put_all.Given as goal

abbrev pub invariant-loop-order : goal.invariant-loop-order
invariant-loop-order g l = IsPassOf l.desk l.worker × (view l.worker ≡ knowledge 16 l.yielded [])
