use Rattle.std.proofs.Common.{◌∷◌, ◌∙◌, true}
use Rattle.std.proofs.lemmas.Result.{err_from_is_err_and}
use Rattle.schema_syntax.specs.Machine.{A, AColon, AType, MaybeDefault, Arguments}
use Rattle.schema_syntax.proofs.Steps.{fails_earlier, colon_fails, colon_comes}
use Rattle.schema_syntax.proofs.Lists.{argument_described, argument_is}
use Rattle.schema_syntax.proofs.parser.Parser.argument.Goals as goal

pub returns-in_err-name-clause-reads : goal.returns-in_err-name-clause-reads
returns-in_err-name-clause-reads c =
    let p = err_from_is_err_and c.from_residual.result c.from_residual.ensures.1 in
    rw (p.1, p.2) (λ stack. fails_earlier _ _ _ (argument_described _ _ _ _ stack c.description.ensures) (c.in_err-name.ensures.reads 126 (A AColon ∷ AType ∷ MaybeDefault ∷ Arguments true ∷ stack)))

pub returns-in_err-expect-clause-reads : goal.returns-in_err-expect-clause-reads
returns-in_err-expect-clause-reads c =
    let p = err_from_is_err_and c.from_residual-in_err-expect.result c.from_residual-in_err-expect.ensures.1 in
    rw (p.1, p.2) (λ stack. fails_earlier _ _ _ (argument_described _ _ _ _ stack c.description.ensures ∙ (c.in_ok-name.ensures.reads 126).1 (A AColon ∷ AType ∷ MaybeDefault ∷ Arguments true ∷ stack)) (colon_fails 126 _ _ (AType ∷ MaybeDefault ∷ Arguments true ∷ stack) c.in_err-expect.ensures))

pub returns-in_err-of_type-clause-reads : goal.returns-in_err-of_type-clause-reads
returns-in_err-of_type-clause-reads c =
    let p = err_from_is_err_and c.from_residual-in_err-of_type.result c.from_residual-in_err-of_type.ensures.1 in
    rw (p.1, p.2) (λ stack. fails_earlier _ _ _ (argument_described _ _ _ _ stack c.description.ensures ∙ (c.in_ok-name.ensures.reads 126).1 (A AColon ∷ AType ∷ MaybeDefault ∷ Arguments true ∷ stack) ∙ colon_comes 126 _ _ (AType ∷ MaybeDefault ∷ Arguments true ∷ stack) c.in_ok-expect.ensures) (c.in_err-of_type.ensures.reads 125 (MaybeDefault ∷ Arguments true ∷ stack)))

pub returns-in_err-default-clause-reads : goal.returns-in_err-default-clause-reads
returns-in_err-default-clause-reads c =
    let p = err_from_is_err_and c.from_residual-in_err-default.result c.from_residual-in_err-default.ensures.1 in
    rw (p.1, p.2) (λ stack. fails_earlier _ _ _ (argument_described _ _ _ _ stack c.description.ensures ∙ (c.in_ok-name.ensures.reads 126).1 (A AColon ∷ AType ∷ MaybeDefault ∷ Arguments true ∷ stack) ∙ colon_comes 126 _ _ (AType ∷ MaybeDefault ∷ Arguments true ∷ stack) c.in_ok-expect.ensures ∙ (c.in_ok-of_type.ensures.reads 125).1 (MaybeDefault ∷ Arguments true ∷ stack)) (c.in_err-default.ensures.reads (Arguments true ∷ stack)))

pub returns-clause-reads : goal.returns-clause-reads
returns-clause-reads c = (
  argument_is _ c.description.ensures (c.in_ok-name.ensures.reads 126).0 c.in_ok-expect.ensures (c.in_ok-of_type.ensures.reads 125).0 c.in_ok-default.ensures.reads.0,
  λ stack. argument_described _ _ _ _ stack c.description.ensures ∙ (c.in_ok-name.ensures.reads 126).1 (A AColon ∷ AType ∷ MaybeDefault ∷ Arguments true ∷ stack) ∙ colon_comes 126 _ _ (AType ∷ MaybeDefault ∷ Arguments true ∷ stack) c.in_ok-expect.ensures ∙ (c.in_ok-of_type.ensures.reads 125).1 (MaybeDefault ∷ Arguments true ∷ stack) ∙ c.in_ok-default.ensures.reads.1 (Arguments true ∷ stack),
)
