use Rattle.std.proofs.Common.{◌≡◌, map, drop, not}
use Rattle.std.specs.List.{filter}
use Rattle.gq_parser.specs.Tree.{Directive, directive_of}
use Rattle.rules_untyped.specs.Scans.{with_all}
use Rattle.rules_untyped.specs.Named.{named_directive}
use Rattle.rules_untyped.specs.DirectivesAreDefined.{is_defined}
use Rattle.rules_untyped.proofs.rules.directives_are_defined.add_undefined.Given as goal

abbrev pub invariant-loop-directive : goal.invariant-loop-directive
invariant-loop-directive l =
    with_all l.earliest (map named_directive (filter (λ (d : Directive). not (is_defined d)) (map directive_of (drop l.directive-index l.directive-items))))
    ≡ with_all l.initial.earliest (map named_directive (filter (λ (d : Directive). not (is_defined d)) (map directive_of l.directive-items)))
