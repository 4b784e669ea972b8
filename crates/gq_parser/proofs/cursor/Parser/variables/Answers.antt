use Rattle.std.proofs.Common.{◌∷◌, ◌∙◌, refl, arith}
use Rattle.std.proofs.lemmas.Result.{err_from_is_err_and}
use Rattle.gq_parser.specs.Tree.{variable_of}
use Rattle.gq_parser.specs.Grammar.{AreVariables, AreOptionalVariables, no_variables, next_variable}
use Rattle.gq_parser.proofs.Front.{fails_earlier, front_more, front_fails}
use Rattle.gq_parser.proofs.Views.{map_push}
use Rattle.gq_parser.proofs.Steps.{variable_comes, no_variables_come, variables_open}
use Rattle.gq_parser.proofs.Lists.{first_variable, variables_end}
use Rattle.gq_parser.proofs.cursor.Parser.variables.Goals as goal

pub returns-in_default-clause-reads : goal.returns-in_default-clause-reads
returns-in_default-clause-reads c =
    let none = c.in_default.ensures in
    rw (c.new-variables.ensures.items, none.0) (no_variables, λ stack. no_variables_come _ _ stack none.1)

pub returns-in_err-variable-clause-reads : goal.returns-in_err-variable-clause-reads
returns-in_err-variable-clause-reads c =
    let p = err_from_is_err_and c.from_residual.result c.from_residual.ensures.1 in
    rw (p.1, p.2) (λ stack. fails_earlier _ _ _ (variables_open stack (omega arith) c.in-Some.ensures) (c.in_err-variable.ensures.reads stack))

pub loop-variables-init : goal.loop-variables-init
loop-variables-init c = first_variable _ _ _ _ _ _ c.in_ok-variable.field-0 _ (omega arith) c.in-Some.ensures c.in_ok-variable.ensures.reads.0 c.in_ok-variable.ensures.reads.1 c.in_ok-variable.ensures.shrinks (c.in_ok-push.ensures.items ∙ rw c.new-variables.ensures.items refl)

pub returns-in_err-variable-2-clause-reads : goal.returns-in_err-variable-2-clause-reads
returns-in_err-variable-2-clause-reads c =
    let p = err_from_is_err_and c.from_residual-in_err-variable-2.result c.from_residual-in_err-variable-2.ensures.1 in
    rw (p.1, p.2) (front_fails AreVariables AreOptionalVariables _ _ _ _ _ _ _ _ _ _ c.loop-variables.invariant c.loop-variables-test.ensures
    (λ h stack. fails_earlier _ _ _ (variable_comes _ _ stack h) (c.in_err-variable-2.ensures.reads stack)))

pub loop-variables-preserved : goal.loop-variables-preserved
loop-variables-preserved c =
    front_more AreVariables AreOptionalVariables _ _ _ _ _ _ _ _ _ _ _ (λ others. variable_of c.in_ok-variable-2.field-0 ∷ others) c.loop-variables.invariant c.loop-variables-test.ensures
    (λ others end rest. next_variable c.in_ok-variable-2.ensures.reads.0 rest)
    (λ h stack. variable_comes _ _ stack h ∙ c.in_ok-variable-2.ensures.reads.1 stack)
    c.in_ok-variable-2.ensures.shrinks
    (λ others. rw c.in_ok-push-2.ensures.items (map_push variable_of _ _ others))

pub returns-clause-reads : goal.returns-clause-reads
returns-clause-reads c = rw c.shrink_to_fit.ensures.items (variables_end _ _ _ _ _ _ (omega arith) c.loop-variables.invariant c.loop-variables-test.ensures)
