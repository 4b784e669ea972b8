use Rattle.std.proofs.Common.{◌≡◌, ◌∙◌, ap, ℕ, List, bytes_eq, arith}
use Rattle.std.specs.HashMap.{get_by}
use Rattle.std.specs.Borrow.{Bor}
use Rattle.rules_untyped.specs.VariableUseIndex.{has_if}
use Rattle.rules_untyped.proofs.ScanLaws.{drop-next}
use Rattle.rules_untyped.proofs.rules.all_variables_used.add_unused.Goals as goal

pub loop-variable-preserved : goal.loop-variable-preserved
loop-variable-preserved c =
    let number = c.copied-name.ensures ∙ rw c.as_str.ensures at c.get.ensures.value in
    let known : c.has_if.result ≡ has_if c.args.used.now c.args.number (get_by (λ (k : Bor (List ℕ)). bytes_eq c.variable-item.result.name k.now) c.args.names.now) = c.has_if.ensures ∙ ap (has_if c.args.used.now c.args.number) number in
    let before = rw (drop-next c.deref-variable-items.result.now c.loop-variable.variable-index c.variable-item.result c.loop-variable-test.true c.variable-item.is) at c.loop-variable.invariant in
    grind (arith, known, before)
