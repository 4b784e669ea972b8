use Rattle.std.proofs.Common.{◌∙◌, ◌+◌, ap, sym, List, map, drop}
use Rattle.std.proofs.lemmas.Simd.{map-map}
use Rattle.std.specs.List.{flat_map}
use Rattle.gq_parser.specs.Tree.{directive_of}
use Rattle.rules_parts.specs.Parts.{directive_list_of}
use Rattle.rules_parts.specs.Broken.{BrokenOf}
use Rattle.rules_untyped.specs.Named.{named_directive}
use Rattle.rules_untyped.specs.Repeated.{repeated}
use Rattle.rules_untyped.specs.Scans.{with_all}
use Rattle.rules_untyped.specs.DirectivesAreUniquePerLocation.{repeated_directives}
use Rattle.rules_untyped.proofs.ScanLaws.{drop-next, report-more}
use Rattle.rules_untyped.proofs.rules.directives_are_unique_per_location.directives_are_unique_per_location.Goals as goal

pub loop-list-preserved : goal.loop-list-preserved
loop-list-preserved c =
    let all = c.deref-list-items.result.now in
    let i = c.loop-list.list-index in
    let item = c.list-item.result in
    let own = item.directives.now in
    let old = c.loop-list.earliest in
    let tells = c.in_ok-add_repeated.ensures ∙ ap (λ (bs : List BrokenOf). with_all old (repeated bs)) (sym (map-map named_directive directive_of own)) in
    report-more old c.add_repeated.new.earliest (repeated (map named_directive (map directive_of own))) (flat_map repeated_directives (map directive_list_of (drop (i + 1) all))) tells
    ∙ rw (drop-next all i item c.loop-list-test.true c.list-item.is) at c.loop-list.invariant
