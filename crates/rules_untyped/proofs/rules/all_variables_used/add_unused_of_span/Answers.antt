use Rattle.std.proofs.Common.{◌≡◌, ◌∙◌, ◌+◌, ◌<◌, ◌∷◌, ap, suc, ℕ, List, not, length, get_or, map, drop, bytes_eq, add-one, arith}
use Rattle.std.specs.List.{filter}
use Rattle.std.specs.HashMap.{get_by}
use Rattle.std.specs.Borrow.{Bor}
use Rattle.std.proofs.lemmas.List.Elements.{filter_agree}
use Rattle.gq_parser.specs.Tree.{VariableDefinition, operation_of}
use Rattle.rules_untyped.specs.Named.{named_variable}
use Rattle.rules_untyped.specs.Scans.{with_all}
use Rattle.rules_untyped.specs.AllVariablesUsed.{is_unused, unused_variables}
use Rattle.rules_untyped.specs.VariableUseIndex.{has_if}
use Rattle.rules_untyped.proofs.ScanLaws.{report-more}
use Rattle.rules_untyped.proofs.SetLaws.{drop-seen}
use Rattle.rules_untyped.proofs.UsedLaws.{used_by}
use Rattle.rules_untyped.proofs.rules.all_variables_used.add_unused_of_span.Goals as goal

pub loop-number-preserved : goal.loop-number-preserved
loop-number-preserved c = λ g uses holds are.
    let table = c.args.table.now in
    let span = c.args.span.now in
    let all = span.operations.now in
    let first = span.first in
    let n = c.loop-number.number in
    let item = get_or all (first + n) c.index-span-span.result in
    let at : item ≡ get_or all (first + n) item = ap (get_or all (first + n)) c.index-span-span.is in
    let o = operation_of item in
    let sets = c.in_ok-used.used.items in
    let old = c.loop-number.earliest in
    let new = c.add_unused.new.earliest in
    let within : first + n < length all = omega arith in
    let is_marked : VariableDefinition → _ = λ v. not (has_if sets n (get_by (λ (k : Bor (List ℕ)). bytes_eq v.name k.now) table.names)) in
    let agree = λ (v : VariableDefinition). ap (λ b. not b) (ap (has_if sets n) (holds.names v.name) ∙ used_by g uses table holds first span.count span.reached.items are n c.loop-number-test.true v.name sets (λ (q : ℕ). c.in_ok-used.ensures q n)) in
    let tells = rw c.deref.ensures.value at c.add_unused.ensures in
    let unused = tells ∙ ap (λ (vs : List VariableDefinition). with_all old (map named_variable vs)) (filter_agree is_marked (is_unused g uses (first + n)) agree o.variables) in
    let rest = unused_variables g uses (suc (first + n)) (drop (suc (first + n)) (map operation_of all)) in
    let next : first + (n + 1) ≡ suc (first + n) = omega arith in
    let here : with_all old (unused_variables g uses (first + n) (o ∷ drop (suc (first + n)) (map operation_of all))) ≡ with_all c.args.earliest.now (unused_variables g uses first (drop first (map operation_of all))) =
    rw (drop-seen operation_of all (first + n) item within at) at (c.loop-number.invariant g uses holds are) in
    rw next (report-more old new (map named_variable (filter (is_unused g uses (first + n)) o.variables)) rest unused ∙ rw add-one at here)
