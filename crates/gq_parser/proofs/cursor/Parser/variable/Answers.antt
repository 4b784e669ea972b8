use Rattle.std.proofs.Common.{◌∷◌, ◌∙◌}
use Rattle.std.proofs.lemmas.Result.{err_from_is_err_and}
use Rattle.gq_parser.specs.declared.value.Constness.TheVariants.{Const}
use Rattle.gq_parser.specs.Grammar.{variable_definition}
use Rattle.gq_parser.specs.Machine.{AColon, AType, MaybeDefault, MaybeDirectives, MoreVariables}
use Rattle.gq_parser.proofs.Front.{fails_earlier}
use Rattle.gq_parser.proofs.cursor.Parser.variable.Goals as goal

pub returns-in_err-name-clause-reads : goal.returns-in_err-name-clause-reads
returns-in_err-name-clause-reads c =
    let p = err_from_is_err_and c.from_residual-in_err-name.result c.from_residual-in_err-name.ensures.1 in
    rw (p.1, p.2) (λ stack. fails_earlier _ _ _ ((c.in_ok-place.ensures.reads c.args.room).1 stack) (c.in_err-name.ensures.reads c.args.room (AColon ∷ AType ∷ MaybeDefault ∷ MaybeDirectives Const ∷ MoreVariables ∷ stack)))

pub returns-in_err-colon-clause-reads : goal.returns-in_err-colon-clause-reads
returns-in_err-colon-clause-reads c =
    let p = err_from_is_err_and c.from_residual-in_err-colon.result c.from_residual-in_err-colon.ensures.1 in
    let room = c.args.room in
    rw (p.1, p.2) (λ stack. fails_earlier _ _ _ ((c.in_ok-place.ensures.reads room).1 stack ∙ (c.in_ok-name.ensures.reads room).1 (AColon ∷ AType ∷ MaybeDefault ∷ MaybeDirectives Const ∷ MoreVariables ∷ stack)) (c.in_err-colon.ensures.reads room (AType ∷ MaybeDefault ∷ MaybeDirectives Const ∷ MoreVariables ∷ stack)))

pub returns-in_err-of_type-clause-reads : goal.returns-in_err-of_type-clause-reads
returns-in_err-of_type-clause-reads c =
    let p = err_from_is_err_and c.from_residual-in_err-of_type.result c.from_residual-in_err-of_type.ensures.1 in
    let room = c.args.room in
    rw (p.1, p.2) (λ stack. fails_earlier _ _ _ ((c.in_ok-place.ensures.reads room).1 stack ∙ (c.in_ok-name.ensures.reads room).1 (AColon ∷ AType ∷ MaybeDefault ∷ MaybeDirectives Const ∷ MoreVariables ∷ stack) ∙ (c.in_ok-colon.ensures.reads room).1 (AType ∷ MaybeDefault ∷ MaybeDirectives Const ∷ MoreVariables ∷ stack)) (c.in_err-of_type.ensures.reads (MaybeDefault ∷ MaybeDirectives Const ∷ MoreVariables ∷ stack)))

pub returns-in_err-default-clause-reads : goal.returns-in_err-default-clause-reads
returns-in_err-default-clause-reads c =
    let p = err_from_is_err_and c.from_residual-in_err-default.result c.from_residual-in_err-default.ensures.1 in
    let room = c.args.room in
    rw (p.1, p.2) (λ stack. fails_earlier _ _ _ ((c.in_ok-place.ensures.reads room).1 stack ∙ (c.in_ok-name.ensures.reads room).1 (AColon ∷ AType ∷ MaybeDefault ∷ MaybeDirectives Const ∷ MoreVariables ∷ stack) ∙ (c.in_ok-colon.ensures.reads room).1 (AType ∷ MaybeDefault ∷ MaybeDirectives Const ∷ MoreVariables ∷ stack) ∙ c.in_ok-of_type.ensures.reads.1 (MaybeDefault ∷ MaybeDirectives Const ∷ MoreVariables ∷ stack)) (c.in_err-default.ensures.reads (MaybeDirectives Const ∷ MoreVariables ∷ stack)))

pub returns-in_err-directives-clause-reads : goal.returns-in_err-directives-clause-reads
returns-in_err-directives-clause-reads c =
    let p = err_from_is_err_and c.from_residual-in_err-directives.result c.from_residual-in_err-directives.ensures.1 in
    let room = c.args.room in
    rw (p.1, p.2) (λ stack. fails_earlier _ _ _ ((c.in_ok-place.ensures.reads room).1 stack ∙ (c.in_ok-name.ensures.reads room).1 (AColon ∷ AType ∷ MaybeDefault ∷ MaybeDirectives Const ∷ MoreVariables ∷ stack) ∙ (c.in_ok-colon.ensures.reads room).1 (AType ∷ MaybeDefault ∷ MaybeDirectives Const ∷ MoreVariables ∷ stack) ∙ c.in_ok-of_type.ensures.reads.1 (MaybeDefault ∷ MaybeDirectives Const ∷ MoreVariables ∷ stack) ∙ c.in_ok-default.ensures.reads.1 (MaybeDirectives Const ∷ MoreVariables ∷ stack)) (c.in_err-directives.ensures.reads (MoreVariables ∷ stack)))

pub returns-clause-reads : goal.returns-clause-reads
returns-clause-reads c =
    let room = c.args.room in (
      rw ((c.in_ok-place.ensures.reads room).0, (c.in_ok-name.ensures.reads room).0.1, (c.in_ok-colon.ensures.reads room).0.1) (variable_definition c.in_ok-of_type.ensures.reads.0 c.in_ok-default.ensures.reads.0 c.in_ok-directives.ensures.reads.0),
      λ stack. (c.in_ok-place.ensures.reads room).1 stack ∙ (c.in_ok-name.ensures.reads room).1 (AColon ∷ AType ∷ MaybeDefault ∷ MaybeDirectives Const ∷ MoreVariables ∷ stack) ∙ (c.in_ok-colon.ensures.reads room).1 (AType ∷ MaybeDefault ∷ MaybeDirectives Const ∷ MoreVariables ∷ stack) ∙ c.in_ok-of_type.ensures.reads.1 (MaybeDefault ∷ MaybeDirectives Const ∷ MoreVariables ∷ stack) ∙ c.in_ok-default.ensures.reads.1 (MaybeDirectives Const ∷ MoreVariables ∷ stack) ∙ c.in_ok-directives.ensures.reads.1 (MoreVariables ∷ stack),
    )
