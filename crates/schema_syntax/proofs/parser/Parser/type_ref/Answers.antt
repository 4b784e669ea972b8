use Rattle.std.proofs.Common.{◌∷◌, [], suc, ◌∙◌}
use Rattle.std.proofs.lemmas.Result.{err_from_is_err_and}
use Rattle.gq_parser.specs.Tree.{type_of}
use Rattle.schema_syntax.specs.Machine.{A, AType, ABracket, ATypeName, MaybeBang}
use Rattle.schema_syntax.specs.Parsing.{IsTypeRead}
use Rattle.schema_syntax.proofs.Steps.{fails_earlier, reads_at, type_comes, list_opens, bracket_fails, list_type_read}
use Rattle.schema_syntax.proofs.parser.Parser.type_ref.Goals as goal

pub returns-in_default-clause-reads : goal.returns-in_default-clause-reads
returns-in_default-clause-reads c = λ room. reads_at (λ t. IsTypeRead (type_of t)) (suc room) (suc room) (suc room) (AType ∷ []) (A ATypeName ∷ MaybeBang ∷ []) [] _ _ _ c.named_type.result c.in_default.ensures.0 (λ stack. type_comes (suc room) _ stack c.in_default.ensures.1) (c.named_type.ensures.reads (suc room))

pub returns-in_err-expect-clause-reads : goal.returns-in_err-expect-clause-reads
returns-in_err-expect-clause-reads c = λ room.
    let p = err_from_is_err_and c.from_residual-in_err-expect.result c.from_residual-in_err-expect.ensures.1 in
    rw (p.1, p.2) (λ stack. fails_earlier _ _ _ (list_opens room _ _ _ stack c.in-Some.ensures ∙ (c.in_ok-item.ensures.reads room).1 (A ABracket ∷ MaybeBang ∷ stack)) (bracket_fails room _ _ (MaybeBang ∷ stack) c.in_err-expect.ensures))

pub returns-clause-reads : goal.returns-clause-reads
returns-clause-reads c = λ room. list_type_read room _ _ _ _ _ _ _ _ _ c.in-Some.ensures (c.in_ok-item.ensures.reads room) c.in_ok-item.ensures.named c.in_ok-new.ensures.ok c.in_ok-expect.ensures c.eat-non_null.ensures
