use Rattle.std.proofs.Common.{◌≡◌, map, drop}
use Rattle.std.specs.List.{list_any}
use Rattle.rules_untyped.specs.Repeated.{has_name}
use Rattle.rules_untyped.proofs.names.stands_in.Given as goal

abbrev pub invariant-loop-part : goal.invariant-loop-part
invariant-loop-part g l =
    list_any (has_name l.name) (map g.T.HasName.part (drop l.part-index l.parts))
    ≡ list_any (has_name l.name) (map g.T.HasName.part l.parts)
