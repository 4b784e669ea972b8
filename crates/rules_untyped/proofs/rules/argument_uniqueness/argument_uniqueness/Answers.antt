use Rattle.std.proofs.Common.{◌∙◌, ◌+◌, ◌<◌, ◌++◌, ap, sym, List, length, map, drop}
use Rattle.std.proofs.lemmas.Simd.{map-map}
use Rattle.std.specs.List.{flat_map}
use Rattle.gq_parser.specs.declared.tree.Argument.{Argument}
use Rattle.gq_parser.specs.declared.tree.Selection.TheViews.{out-Field}
use Rattle.gq_parser.specs.Tree.{argument_of}
use Rattle.rules_parts.specs.Listing.{field_arguments}
use Rattle.rules_parts.specs.Parts.{field_part_of, argument_list_of}
use Rattle.rules_parts.specs.Broken.{BrokenOf}
use Rattle.rules_untyped.specs.Named.{named_argument}
use Rattle.rules_untyped.specs.Repeated.{repeated}
use Rattle.rules_untyped.specs.Scans.{with_all}
use Rattle.rules_untyped.specs.ArgumentUniqueness.{repeated_arguments}
use Rattle.rules_untyped.proofs.ScanLaws.{drop-next, report-more}
use Rattle.rules_untyped.proofs.rules.argument_uniqueness.argument_uniqueness.Goals as goal

pub loop-part-preserved : goal.loop-part-preserved
loop-part-preserved c =
    let all = c.args.parts.now.fields.items in
    let i = c.loop-part.part-index in
    let item = c.part-item.result in
    let own = (out-Field item.field.now).arguments.items in
    let old = c.loop-part.earliest in
    let lt : i < length all = rw (← c.deref-part-items.ensures.value) c.loop-part-test.true in
    let tells = c.in_ok-add_repeated.ensures
    ∙ (ap (λ (bs : List BrokenOf). with_all old (repeated bs)) (sym (map-map named_argument argument_of c.deref.result.now))
    ∙ ap (λ (as' : List Argument). with_all old (repeated (map named_argument (map argument_of as')))) c.deref.ensures.value) in
    report-more old c.add_repeated.new.earliest (repeated (map named_argument (map argument_of own))) (flat_map repeated_arguments (map field_arguments (map field_part_of (drop (i + 1) all)) ++ map argument_list_of c.args.parts.now.directive_arguments.items)) tells
    ∙ rw (drop-next all i item lt (rw (← c.deref-part-items.ensures.value) c.part-item.is)) at c.loop-part.invariant

pub loop-list-preserved : goal.loop-list-preserved
loop-list-preserved c =
    let all = c.args.parts.now.directive_arguments.items in
    let i = c.loop-list.list-index in
    let item = c.list-item.result in
    let own = item.arguments.now in
    let old = c.loop-list.earliest in
    let lt : i < length all = rw (← c.deref-list-items.ensures.value) c.loop-list-test.true in
    let tells = c.in_ok-add_repeated-2.ensures ∙ ap (λ (bs : List BrokenOf). with_all old (repeated bs)) (sym (map-map named_argument argument_of own)) in
    report-more old c.add_repeated-in-loop-list.new.earliest (repeated (map named_argument (map argument_of own))) (flat_map repeated_arguments (map argument_list_of (drop (i + 1) all))) tells
    ∙ rw (drop-next all i item lt (rw (← c.deref-list-items.ensures.value) c.list-item.is)) at c.loop-list.invariant
