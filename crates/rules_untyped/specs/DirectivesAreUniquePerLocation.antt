-- Directives Are Unique Per Location (October 2021, section 5.7.3): no two directives of one name stand at one location.
use Rattle.std.specs.Prelude.{List, map, flat_map}
use Rattle.rules_parts.specs.Broken.{BrokenOf}
use Rattle.rules_parts.specs.Parts.{PartsOf, DirectiveList}
use Rattle.rules_untyped.specs.Named.{named_directive}
use Rattle.rules_untyped.specs.Repeated.{repeated}

-- the directives at a location whose name stands there before
abbrev pub repeated_directives : DirectiveList → List BrokenOf
repeated_directives l = repeated (map named_directive l.directives)

abbrev pub directives_are_unique_per_location : PartsOf → List BrokenOf
directives_are_unique_per_location p = flat_map repeated_directives p.directive_lists
