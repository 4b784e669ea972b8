use Rattle.std.proofs.Common.{[], refl}
use Rattle.gq_parser.proofs.Documents.{one_more, whole}
use Rattle.gq_parser.proofs.reading.document.Goals as goal

pub definitions-preserved : goal.definitions-preserved
definitions-preserved c =
    let read = c.in_ok-definition.ensures.reads in
    one_more c.in_ok-definition.definition c.definitions.document _ _ _ _ c.in_ok-add.ensures read.0 (read.1 []) c.in_ok-definition.ensures.shrinks (λ e. let h = c.if-is_at_end.ensures.1 e in cc) c.definitions.invariant

pub returns-clause-found : goal.returns-clause-found
returns-clause-found c =
    let read = c.in_ok-definition.ensures.reads in
    rw c.shrink_to_fit.ensures.items (whole c.in_ok-definition.definition c.definitions.document _ _ _ _ c.in_ok-add.ensures read.0 (read.1 []) c.in_ok-definition.ensures.shrinks (c.if-is_at_end.ensures.0 refl) c.definitions.invariant)
