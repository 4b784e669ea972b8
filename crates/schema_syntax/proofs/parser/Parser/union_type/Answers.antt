use Rattle.std.proofs.Common.{◌∷◌, ◌∙◌}
use Rattle.std.proofs.lemmas.Result.{err_from_is_err_and}
use Rattle.schema_syntax.proofs.Steps.{fails_earlier}
use Rattle.schema_syntax.specs.Machine.{A, AnEquals, ATypeName, MaybePipe, MoreMembers}
use Rattle.schema_syntax.proofs.Steps.{equals_fails, equals_comes}
use Rattle.schema_syntax.proofs.Bodies.{union_is}
use Rattle.schema_syntax.proofs.parser.Parser.union_type.Goals as goal

pub returns-in_err-expect-clause-reads : goal.returns-in_err-expect-clause-reads
returns-in_err-expect-clause-reads c = let p = err_from_is_err_and c.from_residual-in_err-expect.result c.from_residual-in_err-expect.ensures.1 in rw (p.1, p.2)
    (λ stack. fails_earlier _ _ _ ((c.in_ok-name.ensures.reads 128).1 (A AnEquals ∷ MaybePipe ∷ A ATypeName ∷ MoreMembers ∷ stack)) (equals_fails 128 _ _ (MaybePipe ∷ A ATypeName ∷ MoreMembers ∷ stack) c.in_err-expect.ensures))

pub returns-in_err-members-clause-reads : goal.returns-in_err-members-clause-reads
returns-in_err-members-clause-reads c = let p = err_from_is_err_and c.from_residual-in_err-members.result c.from_residual-in_err-members.ensures.1 in rw (p.1, p.2)
    (λ stack. fails_earlier _ _ _ ((c.in_ok-name.ensures.reads 128).1 (A AnEquals ∷ MaybePipe ∷ A ATypeName ∷ MoreMembers ∷ stack) ∙ equals_comes 128 _ _ (MaybePipe ∷ A ATypeName ∷ MoreMembers ∷ stack) c.in_ok-expect.ensures) (c.in_err-members.ensures.reads stack))

pub returns-clause-reads : goal.returns-clause-reads
returns-clause-reads c = (
  λ place. union_is (c.in_ok-name.ensures.reads 128).0 c.in_ok-expect.ensures c.in_ok-members.ensures.reads.0,
  λ stack. (c.in_ok-name.ensures.reads 128).1 (A AnEquals ∷ MaybePipe ∷ A ATypeName ∷ MoreMembers ∷ stack) ∙ equals_comes 128 _ _ (MaybePipe ∷ A ATypeName ∷ MoreMembers ∷ stack) c.in_ok-expect.ensures ∙ c.in_ok-members.ensures.reads.1 stack,
)
