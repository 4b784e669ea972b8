use Rattle.std.proofs.Common.{◌≡◌, ◌++◌, map, take, drop}
use Rattle.load_queue.specs.Loaders.{unasked}
use Rattle.load_rounds.proofs.restart.restart_all.Given as goal

abbrev pub invariant-loop-loader : goal.invariant-loop-loader
invariant-loop-loader g l = l.loaders.items ≡ map unasked (take l.loader l.fn.loaders.items) ++ drop l.loader l.fn.loaders.items
