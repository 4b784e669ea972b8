-- Directives Are Defined (October 2021, section 5.7.1): each is one of those that every schema has, `skip` and `include`
-- (sections 3.13.1 and 3.13.2).
use Rattle.std.specs.Prelude.{Bool, ◌||◌, List, map, filter, flat_map, not, codes, bytes_eq}
use Rattle.gq_parser.specs.Tree.{Directive}
use Rattle.rules_parts.specs.Broken.{BrokenOf}
use Rattle.rules_parts.specs.Parts.{PartsOf, DirectiveList}
use Rattle.rules_untyped.specs.Named.{named_directive}

abbrev pub is_defined : Directive → Bool
is_defined d = bytes_eq d.name (codes "skip") || bytes_eq d.name (codes "include")

-- the directives at a location that no schema has
abbrev pub undefined_directives : DirectiveList → List BrokenOf
undefined_directives l = map named_directive (filter (λ d. not (is_defined d)) l.directives)

abbrev pub directives_are_defined : PartsOf → List BrokenOf
directives_are_defined p = flat_map undefined_directives p.directive_lists
