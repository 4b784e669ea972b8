-- Directives Are In Valid Locations (October 2021, section 5.7.2): `skip` and `include` stand on fields, spreads and inline fragments
-- alone. Another directive is the matter of the rule that directives are defined.
use Rattle.std.specs.Prelude.{Bool, true, false, List, [], map, filter, flat_map, if◌then◌else◌}
use Rattle.rules_parts.specs.declared.part.DirectiveLocation.{DirectiveLocation}
use Rattle.rules_parts.specs.declared.part.DirectiveLocation.TheVariants.{Field, FragmentSpread, InlineFragment, Operation, VariableDefinition, FragmentDefinition}
use Rattle.rules_parts.specs.Broken.{BrokenOf}
use Rattle.rules_parts.specs.Parts.{PartsOf, DirectiveList}
use Rattle.rules_untyped.specs.Named.{named_directive}
use Rattle.rules_untyped.specs.DirectivesAreDefined.{is_defined}

-- tells whether `skip` and `include` may stand there
abbrev pub is_valid : DirectiveLocation → Bool
is_valid Field = true
is_valid FragmentSpread = true
is_valid InlineFragment = true
is_valid Operation = false
is_valid VariableDefinition = false
is_valid FragmentDefinition = false

-- the directives at a location where they may not stand
abbrev pub misplaced_directives : DirectiveList → List BrokenOf
misplaced_directives l =
    if is_valid l.location then [] else map named_directive (filter is_defined l.directives)

abbrev pub directives_are_in_valid_locations : PartsOf → List BrokenOf
directives_are_in_valid_locations p = flat_map misplaced_directives p.directive_lists
