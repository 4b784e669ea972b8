use Rattle.std.proofs.Common.{◌≡◌, map, take, drop}
use Rattle.std.specs.List.{list_any}
use Rattle.rules_untyped.specs.Repeated.{has_name, repeated}
use Rattle.rules_untyped.specs.Scans.{repeated_by, with_all}
use Rattle.rules_untyped.proofs.names.add_repeated_in_pairs.Given as goal

abbrev pub invariant-loop-i : goal.invariant-loop-i
invariant-loop-i g l =
    with_all l.earliest (repeated_by (λ q. list_any (has_name q) (map g.T.HasName.part (take l.i l.parts))) (map g.T.HasName.part (drop l.i l.parts)))
    ≡ with_all l.initial.earliest (repeated (map g.T.HasName.part l.parts))
