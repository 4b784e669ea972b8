use Rattle.std.proofs.Common.{◌≡◌, map, max, drop}
use Rattle.load_queue.specs.Logs.{asked_of}
use Rattle.load_trace.specs.Traces.{last_in}
use Rattle.load_trace.proofs.rounds.later.Given as goal

abbrev pub invariant-loop-entry : goal.invariant-loop-entry
invariant-loop-entry l = max l.latest (last_in (map asked_of (drop l.entry-index l.log))) ≡ max l.last (last_in (map asked_of l.log))
