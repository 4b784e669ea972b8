use Rattle.std.proofs.Common.{subst, List}
use Rattle.gq_parser.specs.Tree.{document_of}
use Rattle.schema_syntax.specs.declared.tree.Definition.{Definition}
use Rattle.gq_schema.specs.Types.{tree_of}
use Rattle.gq_check.specs.Verdict.{IsValid}
use Rattle.plan_requests.proofs.server.check_query.Goals as goal

pub returns-in-Ok-check-clause-valid : goal.returns-in-Ok-check-clause-valid
returns-in-Ok-check-clause-valid c =
    subst (λ (ds : List Definition). IsValid (tree_of ds) (document_of c.in-Ok-check.checked.document)) c.schema.ensures c.in-Ok-check.ensures.ok
