use Rattle.std.proofs.Common.{◌∷◌, ◌∙◌}
use Rattle.std.proofs.lemmas.Result.{err_from_is_err_and}
use Rattle.gq_parser.specs.declared.value.Constness.TheVariants.{NotConst}
use Rattle.gq_parser.specs.Grammar.{operation}
use Rattle.gq_parser.specs.Machine.{MaybeVariables, MaybeDirectives, ASet}
use Rattle.gq_parser.proofs.Front.{fails_earlier}
use Rattle.gq_parser.proofs.cursor.Parser.operation.Goals as goal

pub returns-in_err-name-clause-reads : goal.returns-in_err-name-clause-reads
returns-in_err-name-clause-reads c =
    let p = err_from_is_err_and c.from_residual.result c.from_residual.ensures.1 in
    rw (p.1, p.2) (λ stack. c.in_err-name.ensures.reads c.args.room (MaybeVariables ∷ MaybeDirectives NotConst ∷ ASet ∷ stack))

pub returns-in_err-variables-clause-reads : goal.returns-in_err-variables-clause-reads
returns-in_err-variables-clause-reads c =
    let p = err_from_is_err_and c.from_residual-in_err-variables.result c.from_residual-in_err-variables.ensures.1 in
    rw (p.1, p.2) (λ stack. fails_earlier _ _ _ ((c.in_ok-name.ensures.reads c.args.room).1 (MaybeVariables ∷ MaybeDirectives NotConst ∷ ASet ∷ stack)) (c.in_err-variables.ensures.reads (MaybeDirectives NotConst ∷ ASet ∷ stack)))

pub returns-in_err-directives-clause-reads : goal.returns-in_err-directives-clause-reads
returns-in_err-directives-clause-reads c =
    let p = err_from_is_err_and c.from_residual-in_err-directives.result c.from_residual-in_err-directives.ensures.1 in
    rw (p.1, p.2) (λ stack. fails_earlier _ _ _ ((c.in_ok-name.ensures.reads c.args.room).1 (MaybeVariables ∷ MaybeDirectives NotConst ∷ ASet ∷ stack) ∙ c.in_ok-variables.ensures.reads.1 (MaybeDirectives NotConst ∷ ASet ∷ stack)) (c.in_err-directives.ensures.reads (ASet ∷ stack)))

pub returns-in_err-selection_set-clause-reads : goal.returns-in_err-selection_set-clause-reads
returns-in_err-selection_set-clause-reads c =
    let p = err_from_is_err_and c.from_residual-in_err-selection_set.result c.from_residual-in_err-selection_set.ensures.1 in
    rw (p.1, p.2) (λ stack. fails_earlier _ _ _ ((c.in_ok-name.ensures.reads c.args.room).1 (MaybeVariables ∷ MaybeDirectives NotConst ∷ ASet ∷ stack) ∙ c.in_ok-variables.ensures.reads.1 (MaybeDirectives NotConst ∷ ASet ∷ stack) ∙ c.in_ok-directives.ensures.reads.1 (ASet ∷ stack)) (c.in_err-selection_set.ensures.reads stack))

pub returns-clause-reads : goal.returns-clause-reads
returns-clause-reads c = (
  λ k w is. operation is (c.in_ok-name.ensures.reads c.args.room).0 c.in_ok-variables.ensures.reads.0 c.in_ok-directives.ensures.reads.0 c.in_ok-selection_set.ensures.reads.0,
  λ stack. (c.in_ok-name.ensures.reads c.args.room).1 (MaybeVariables ∷ MaybeDirectives NotConst ∷ ASet ∷ stack) ∙ c.in_ok-variables.ensures.reads.1 (MaybeDirectives NotConst ∷ ASet ∷ stack) ∙ c.in_ok-directives.ensures.reads.1 (ASet ∷ stack) ∙ c.in_ok-selection_set.ensures.reads.1 stack,
)
