use Rattle.std.proofs.Common.{◌∷◌, ◌∙◌}
use Rattle.std.proofs.lemmas.Result.{err_from_is_err_and}
use Rattle.gq_parser.specs.declared.value.Constness.TheVariants.{NotConst}
use Rattle.gq_parser.specs.Grammar.{fragment}
use Rattle.gq_parser.specs.Machine.{AnOn, AName, MaybeDirectives, ASet}
use Rattle.gq_parser.proofs.Front.{fails_earlier}
use Rattle.gq_parser.proofs.cursor.Parser.fragment.Goals as goal

pub returns-in_err-on-clause-reads : goal.returns-in_err-on-clause-reads
returns-in_err-on-clause-reads c =
    let p = err_from_is_err_and c.from_residual-in_err-on.result c.from_residual-in_err-on.ensures.1 in
    let room = c.args.room in
    rw (p.1, p.2) (λ stack. fails_earlier _ _ _ ((c.in_ok-name.ensures.reads room).1 (AnOn ∷ AName ∷ MaybeDirectives NotConst ∷ ASet ∷ stack)) (c.in_err-on.ensures.reads room (AName ∷ MaybeDirectives NotConst ∷ ASet ∷ stack)))

pub returns-in_err-condition-clause-reads : goal.returns-in_err-condition-clause-reads
returns-in_err-condition-clause-reads c =
    let p = err_from_is_err_and c.from_residual-in_err-condition.result c.from_residual-in_err-condition.ensures.1 in
    let room = c.args.room in
    rw (p.1, p.2) (λ stack. fails_earlier _ _ _ ((c.in_ok-name.ensures.reads room).1 (AnOn ∷ AName ∷ MaybeDirectives NotConst ∷ ASet ∷ stack) ∙ (c.in_ok-on.ensures.reads room).1 (AName ∷ MaybeDirectives NotConst ∷ ASet ∷ stack)) (c.in_err-condition.ensures.reads room (MaybeDirectives NotConst ∷ ASet ∷ stack)))

pub returns-in_err-directives-clause-reads : goal.returns-in_err-directives-clause-reads
returns-in_err-directives-clause-reads c =
    let p = err_from_is_err_and c.from_residual-in_err-directives.result c.from_residual-in_err-directives.ensures.1 in
    let room = c.args.room in
    rw (p.1, p.2) (λ stack. fails_earlier _ _ _ ((c.in_ok-name.ensures.reads room).1 (AnOn ∷ AName ∷ MaybeDirectives NotConst ∷ ASet ∷ stack) ∙ (c.in_ok-on.ensures.reads room).1 (AName ∷ MaybeDirectives NotConst ∷ ASet ∷ stack) ∙ (c.in_ok-condition.ensures.reads room).1 (MaybeDirectives NotConst ∷ ASet ∷ stack)) (c.in_err-directives.ensures.reads (ASet ∷ stack)))

pub returns-in_err-selection_set-clause-reads : goal.returns-in_err-selection_set-clause-reads
returns-in_err-selection_set-clause-reads c =
    let p = err_from_is_err_and c.from_residual-in_err-selection_set.result c.from_residual-in_err-selection_set.ensures.1 in
    let room = c.args.room in
    rw (p.1, p.2) (λ stack. fails_earlier _ _ _ ((c.in_ok-name.ensures.reads room).1 (AnOn ∷ AName ∷ MaybeDirectives NotConst ∷ ASet ∷ stack) ∙ (c.in_ok-on.ensures.reads room).1 (AName ∷ MaybeDirectives NotConst ∷ ASet ∷ stack) ∙ (c.in_ok-condition.ensures.reads room).1 (MaybeDirectives NotConst ∷ ASet ∷ stack) ∙ c.in_ok-directives.ensures.reads.1 (ASet ∷ stack)) (c.in_err-selection_set.ensures.reads stack))

pub returns-clause-reads : goal.returns-clause-reads
returns-clause-reads c =
    let room = c.args.room in
    let name = (c.in_ok-name.ensures.reads room).0 in (
      λ w. rw (name.3, (c.in_ok-on.ensures.reads room).0.2, (c.in_ok-condition.ensures.reads room).0.1) (fragment name.2 c.in_ok-directives.ensures.reads.0 c.in_ok-selection_set.ensures.reads.0),
      λ stack. (c.in_ok-name.ensures.reads room).1 (AnOn ∷ AName ∷ MaybeDirectives NotConst ∷ ASet ∷ stack) ∙ (c.in_ok-on.ensures.reads room).1 (AName ∷ MaybeDirectives NotConst ∷ ASet ∷ stack) ∙ (c.in_ok-condition.ensures.reads room).1 (MaybeDirectives NotConst ∷ ASet ∷ stack) ∙ c.in_ok-directives.ensures.reads.1 (ASet ∷ stack) ∙ c.in_ok-selection_set.ensures.reads.1 stack,
    )
