use Rattle.std.proofs.Common.{◌∙◌, ◌+◌, ap, sym, List, map, drop}
use Rattle.std.proofs.lemmas.Simd.{map-map}
use Rattle.std.specs.List.{flat_map}
use Rattle.gq_parser.specs.Tree.{variable_of, operation_of}
use Rattle.rules_parts.specs.Broken.{BrokenOf}
use Rattle.rules_untyped.specs.Named.{named_variable}
use Rattle.rules_untyped.specs.Repeated.{repeated}
use Rattle.rules_untyped.specs.Scans.{with_all}
use Rattle.rules_untyped.specs.VariableUniqueness.{repeated_variables}
use Rattle.rules_untyped.proofs.ScanLaws.{drop-next, report-more}
use Rattle.rules_untyped.proofs.rules.variable_uniqueness.variable_uniqueness.Goals as goal

pub loop-operation-preserved : goal.loop-operation-preserved
loop-operation-preserved c =
    let all = c.deref-operation-items.result.now in
    let i = c.loop-operation.operation-index in
    let item = c.operation-item.result in
    let own = item.variables.items in
    let old = c.loop-operation.earliest in
    let tells = rw c.deref.ensures.value at (c.in_ok-add_repeated.ensures ∙ ap (λ (bs : List BrokenOf). with_all old (repeated bs)) (sym (map-map named_variable variable_of c.deref.result.now))) in
    report-more old c.add_repeated.new.earliest (repeated (map named_variable (map variable_of own))) (flat_map repeated_variables (map operation_of (drop (i + 1) all))) tells
    ∙ rw (drop-next all i item c.loop-operation-test.true c.operation-item.is) at c.loop-operation.invariant
