use Rattle.std.proofs.Common.{◌≡◌, ◌++◌, map, take, drop}
use Rattle.load_queue.specs.Loaders.{stored_in}
use Rattle.load_rounds.proofs.round.mark_all.Given as goal

abbrev pub invariant-loop-loader : goal.invariant-loop-loader
invariant-loop-loader g l = l.loaders.items ≡ map (λ x. stored_in x l.round) (take l.loader l.fn.loaders.items) ++ drop l.loader l.fn.loaders.items
