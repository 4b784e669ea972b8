use Rattle.std.proofs.Common.{◌≡◌, max, drop}
use Rattle.load_trace.specs.Traces.{last_round}
use Rattle.load_trace.proofs.rounds.last_round.Given as goal

abbrev pub invariant-loop-loader : goal.invariant-loop-loader
invariant-loop-loader g l = max l.last (last_round (drop l.loader-index l.loaders)) ≡ last_round l.loaders
