use Rattle.std.proofs.Common.{◌≡◌, drop, map}
use Rattle.std.specs.Prelude.{max}
use Rattle.load_rounds.specs.SharedRounds.{greatest, report_of}
use Rattle.server.proofs.arrays.most_rounds.Given as goal

abbrev pub invariant-loop-answer : goal.invariant-loop-answer
invariant-loop-answer l = max l.most (greatest (map report_of (drop l.answer-index l.answers))) ≡ greatest (map report_of l.answers)
