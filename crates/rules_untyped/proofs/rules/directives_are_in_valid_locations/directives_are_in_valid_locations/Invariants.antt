use Rattle.std.proofs.Common.{◌≡◌, map, drop}
use Rattle.std.specs.List.{flat_map}
use Rattle.rules_parts.specs.Parts.{directive_list_of}
use Rattle.rules_parts.specs.Broken.{earliest}
use Rattle.rules_untyped.specs.Scans.{with_all}
use Rattle.rules_untyped.specs.DirectivesAreInValidLocations.{misplaced_directives}
use Rattle.rules_untyped.proofs.rules.directives_are_in_valid_locations.directives_are_in_valid_locations.Given as goal

abbrev pub invariant-loop-list : goal.invariant-loop-list
invariant-loop-list l =
    with_all l.earliest (flat_map misplaced_directives (map directive_list_of (drop l.list-index l.list-items)))
    ≡ earliest (flat_map misplaced_directives (map directive_list_of l.list-items))
