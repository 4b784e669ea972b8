use Rattle.std.proofs.Common.{◌∷◌, ◌∙◌, refl, true}
use Rattle.std.proofs.lemmas.Result.{err_from_is_err_and}
use Rattle.schema_syntax.specs.Tree.{argument_of}
use Rattle.schema_syntax.specs.Grammar.{AreArguments, AreOptionalArguments, next_argument}
use Rattle.schema_syntax.proofs.Front.{front_more, front_fails}
use Rattle.schema_syntax.proofs.Steps.{fails_earlier}
use Rattle.schema_syntax.proofs.Views.{view_push}
use Rattle.schema_syntax.proofs.Lists.{argument_comes, no_arguments_read, arguments_open, first_argument, arguments_end}
use Rattle.schema_syntax.proofs.parser.Parser.arguments.Goals as goal

pub returns-then-not-eat-clause-reads : goal.returns-then-not-eat-clause-reads
returns-then-not-eat-clause-reads c = no_arguments_read _ _ _ _ c.new-arguments.ensures.items c.if-not-eat.ensures

pub returns-in_err-argument-clause-reads : goal.returns-in_err-argument-clause-reads
returns-in_err-argument-clause-reads c =
    let p = err_from_is_err_and c.from_residual.result c.from_residual.ensures.1 in
    rw (p.1, p.2) (λ stack. fails_earlier _ _ _ (arguments_open _ _ stack c.if-not-eat.ensures) (c.in_err-argument.ensures.reads stack))

pub loop-arguments-init : goal.loop-arguments-init
loop-arguments-init c = first_argument _ _ _ c.in_ok-argument.field-0 _ c.if-not-eat.ensures c.in_ok-argument.ensures.reads c.in_ok-argument.ensures.shrinks (c.in_ok-push.ensures.items ∙ rw c.new-arguments.ensures.items refl)

pub returns-in_err-argument-2-clause-reads : goal.returns-in_err-argument-2-clause-reads
returns-in_err-argument-2-clause-reads c =
    let p = err_from_is_err_and c.from_residual-in_err-argument-2.result c.from_residual-in_err-argument-2.ensures.1 in
    rw (p.1, p.2) (front_fails (AreArguments true) AreOptionalArguments _ _ _ _ _ _ _ _ _ _ c.loop-arguments.invariant c.loop-arguments-test.ensures
    (λ h stack. fails_earlier _ _ _ (argument_comes _ _ stack h) (c.in_err-argument-2.ensures.reads stack)))

pub loop-arguments-preserved : goal.loop-arguments-preserved
loop-arguments-preserved c =
    front_more (AreArguments true) AreOptionalArguments _ _ _ _ _ _ _ _ _ _ _ (λ others. argument_of c.in_ok-argument-2.field-0 ∷ others) c.loop-arguments.invariant c.loop-arguments-test.ensures
    (λ others end rest. next_argument c.in_ok-argument-2.ensures.reads.0 rest)
    (λ h stack. argument_comes _ _ stack h ∙ c.in_ok-argument-2.ensures.reads.1 stack)
    c.in_ok-argument-2.ensures.shrinks
    (λ others. rw c.in_ok-push-2.ensures.items (view_push argument_of _ _ others))

pub returns-clause-reads : goal.returns-clause-reads
returns-clause-reads c = arguments_end _ _ _ _ c.loop-arguments.invariant c.loop-arguments-test.ensures
