use Rattle.std.proofs.Common.{◌≡◌, ◌+◌, drop, map}
use Rattle.execution.specs.Reads.{counted}
use Rattle.load_rounds.specs.SharedRounds.{report_of}
use Rattle.server.specs.Planned.{all_loads}
use Rattle.server.proofs.arrays.all_loads.Given as goal

abbrev pub invariant-loop-answer : goal.invariant-loop-answer
invariant-loop-answer l = (l.loads ≡ counted l.loads) × (counted (l.loads + all_loads (map report_of (drop l.answer-index l.answers))) ≡ counted (all_loads (map report_of l.answers)))
