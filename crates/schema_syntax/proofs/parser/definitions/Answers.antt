use Rattle.std.proofs.Common.{arith}
use Rattle.std.proofs.lemmas.Result.{err_from_is_err_and}
use Rattle.std.proofs.lemmas.List.{nil_from_length}
use Rattle.schema_syntax.proofs.Whole.{is_stop, finds_err, front_init, front_more, front_fails, front_end, finds_ok}
use Rattle.schema_syntax.proofs.parser.definitions.Goals as goal

pub loop-parser-init : goal.loop-parser-init
loop-parser-init c = front_init _ _ c.new-definitions.ensures.items

pub returns-in_err-definition-clause-only : goal.returns-in_err-definition-clause-only
returns-in_err-definition-clause-only c =
    let p = err_from_is_err_and c.from_residual.result c.from_residual.ensures.1 in
    rw (p.1, p.2) (λ ds h shallow. finds_err _ _ ds (front_fails _ _ _ _ _ _ c.loop-parser.invariant (omega arith) c.description.ensures c.in_err-definition.ensures.reads) h shallow)

pub returns-in_err-definition-clause-stop : goal.returns-in_err-definition-clause-stop
returns-in_err-definition-clause-stop c =
    let p = err_from_is_err_and c.from_residual.result c.from_residual.ensures.1 in
    rw (p.1, p.2) (is_stop _ _ (front_fails _ _ _ _ _ _ c.loop-parser.invariant (omega arith) c.description.ensures c.in_err-definition.ensures.reads))

pub loop-parser-preserved : goal.loop-parser-preserved
loop-parser-preserved c = front_more _ _ _ _ _ _ _ c.in_ok-definition.field-0 c.loop-parser.invariant (omega arith) c.description.ensures c.in_ok-definition.ensures.reads c.in_ok-push.ensures.items

pub returns-clause-found : goal.returns-clause-found
returns-clause-found c = front_end _ _ _ c.loop-parser.invariant (nil_from_length _ (omega arith))

pub returns-clause-only : goal.returns-clause-only
returns-clause-only c = λ ds h shallow. finds_ok _ _ ds (front_end _ _ _ c.loop-parser.invariant (nil_from_length _ (omega arith))).0 h
