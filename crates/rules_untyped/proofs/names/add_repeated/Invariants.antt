use Rattle.std.proofs.Common.{◌≡◌, map, drop}
use Rattle.rules_untyped.specs.Repeated.{repeated}
use Rattle.rules_untyped.specs.Scans.{left, with_all}
use Rattle.rules_untyped.proofs.names.add_repeated.Given as goal

abbrev pub invariant-loop-part : goal.invariant-loop-part
invariant-loop-part g l =
    left l.names l.earliest (map g.T.HasName.part (drop l.part-index l.parts))
    ≡ with_all l.initial.earliest (repeated (map g.T.HasName.part l.parts))
