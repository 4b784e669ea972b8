use Rattle.std.proofs.Common.{◌≡◌, ◌∙◌, ◌+◌, ap, sym, Some, map, slice_get, arith, ⊎_elim}
use Rattle.std.proofs.lemmas.Bool.{cases_eq, ne_eqb}
use Rattle.gq_parser.specs.Tree.{operation_of}
use Rattle.rules_typed.proofs.KindLaws.{slice_get-seen, same_some}
use Rattle.rules_typed.proofs.allowed_uses.allowing_sets.Goals as goal

pub loop-number-preserved : goal.loop-number-preserved
loop-number-preserved c =
    let span = c.args.span.now in
    let all = span.operations.now in
    let first = span.first in
    let n = c.loop-number.number in
    let item = c.index-span-span.result in
    let there : slice_get (map operation_of all) (first + n) ≡ Some (operation_of item) = slice_get-seen operation_of all (first + n) item (omega arith) c.index-span-span.is in
    let own = rw (c.deref.ensures.value, ← c.index-span-span.is) at c.in_ok-allow_by_operation.ensures.own in
    record {
      before = λ r m o lt below kind is. ⊎_elim
          (λ e.
          let same : o ≡ operation_of item = same_some o (operation_of item) (sym is ∙ (ap (λ k. slice_get (map operation_of all) (first + k)) e ∙ there)) in
          rw (e, same) (own r lt kind (c.loop-number.invariant.behind r n lt (omega arith) (omega (arith, span.few, c.loop-number-test.true)))))
          (λ not. c.in_ok-allow_by_operation.ensures.others r m lt (omega (arith, span.few, c.loop-number-test.true)) (ne_eqb m n not) ∙ c.loop-number.invariant.before r m o lt (omega arith) kind is)
          (cases_eq m n);
      behind = λ r m lt later below. c.in_ok-allow_by_operation.ensures.others r m lt below (ne_eqb m n (λ e. omega arith)) ∙ c.loop-number.invariant.behind r m lt (omega arith) below;
    }
