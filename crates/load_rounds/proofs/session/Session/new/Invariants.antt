use Rattle.std.proofs.Common.{◌≡◌, map, take}
use Rattle.execution.specs.Rounds.{rule_of, modes_of, AreLimited}
use Rattle.load_rounds.proofs.session.Session.new.Given as goal

abbrev pub invariant-loop-loader : goal.invariant-loop-loader
invariant-loop-loader g l = record {
  modes : l.modes.items ≡ modes_of (map rule_of (take l.loader-index l.loader-items));
  limited : AreLimited (map rule_of (take l.loader-index l.loader-items));
}
