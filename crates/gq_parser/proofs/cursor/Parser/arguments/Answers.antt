use Rattle.std.proofs.Common.{◌∷◌, ◌∙◌, refl, arith}
use Rattle.std.proofs.lemmas.Result.{err_from_is_err_and}
use Rattle.gq_parser.specs.Tree.{argument_of}
use Rattle.gq_parser.specs.Machine.{MoreArguments}
use Rattle.gq_parser.specs.Grammar.{AreArguments, AreOptionalArguments, no_arguments, next_argument}
use Rattle.gq_parser.proofs.Front.{fails_earlier, front_more, front_fails}
use Rattle.gq_parser.proofs.Views.{map_push}
use Rattle.gq_parser.proofs.Steps.{argument_comes, no_arguments_come, arguments_open}
use Rattle.gq_parser.proofs.Lists.{first_argument, arguments_end}
use Rattle.gq_parser.proofs.cursor.Parser.arguments.Goals as goal

pub returns-in_default-clause-reads : goal.returns-in_default-clause-reads
returns-in_default-clause-reads c =
    let none = c.in_default.ensures in
    rw (c.new-arguments.ensures.items, none.0) (no_arguments, λ stack. no_arguments_come _ _ _ stack none.1)

pub returns-in_err-argument-clause-reads : goal.returns-in_err-argument-clause-reads
returns-in_err-argument-clause-reads c =
    let p = err_from_is_err_and c.from_residual.result c.from_residual.ensures.1 in
    rw (p.1, p.2) (λ stack. fails_earlier _ _ _ (arguments_open _ stack (omega arith) c.in-Some.ensures) (c.in_err-argument.ensures.reads (MoreArguments c.args.constness ∷ stack)))

pub loop-constness-init : goal.loop-constness-init
loop-constness-init c = first_argument _ _ _ _ _ _ _ c.in_ok-argument.field-0 _ (omega arith) c.in-Some.ensures c.in_ok-argument.ensures.reads.0 c.in_ok-argument.ensures.reads.1 c.in_ok-argument.ensures.shrinks (c.in_ok-push.ensures.items ∙ rw c.new-arguments.ensures.items refl)

pub returns-in_err-argument-2-clause-reads : goal.returns-in_err-argument-2-clause-reads
returns-in_err-argument-2-clause-reads c =
    let p = err_from_is_err_and c.from_residual-in_err-argument-2.result c.from_residual-in_err-argument-2.ensures.1 in
    rw (p.1, p.2) (front_fails (AreArguments c.args.constness) (AreOptionalArguments c.args.constness) _ _ _ _ _ _ _ _ _ _ c.loop-constness.invariant c.loop-constness-test.ensures
    (λ h stack. fails_earlier _ _ _ (argument_comes _ _ _ stack h) (c.in_err-argument-2.ensures.reads (MoreArguments c.args.constness ∷ stack))))

pub loop-constness-preserved : goal.loop-constness-preserved
loop-constness-preserved c =
    front_more (AreArguments c.args.constness) (AreOptionalArguments c.args.constness) _ _ _ _ _ _ _ _ _ _ _ (λ others. argument_of c.in_ok-argument-2.field-0 ∷ others) c.loop-constness.invariant c.loop-constness-test.ensures
    (λ others end rest. next_argument c.in_ok-argument-2.ensures.reads.0 rest)
    (λ h stack. argument_comes _ _ _ stack h ∙ c.in_ok-argument-2.ensures.reads.1 (MoreArguments c.args.constness ∷ stack))
    c.in_ok-argument-2.ensures.shrinks
    (λ others. rw c.in_ok-push-2.ensures.items (map_push argument_of _ _ others))

pub returns-clause-reads : goal.returns-clause-reads
returns-clause-reads c = rw c.shrink_to_fit.ensures.items (arguments_end _ _ _ _ _ _ _ (omega arith) c.loop-constness.invariant c.loop-constness-test.ensures)
