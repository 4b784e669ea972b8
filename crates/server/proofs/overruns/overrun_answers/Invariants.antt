use Rattle.std.proofs.Common.{◌≡◌, ◌++◌, drop, map, option_map, string_bytes}
use Rattle.load_rounds.specs.SharedRounds.{report_of}
use Rattle.server.specs.Overruns.{overruns}
use Rattle.server.proofs.overruns.overrun_answers.Given as goal

abbrev pub invariant-loop-own : goal.invariant-loop-own
invariant-loop-own l =
    map report_of l.answers.items ++ overruns l.overrun (drop l.own-index (map (option_map string_bytes) l.refusals)) ≡ overruns l.overrun (map (option_map string_bytes) l.refusals)
