use Rattle.std.proofs.Common.{◌≡◌, subst, List, arith}
use Rattle.std.specs.Arc.{arc_value}
use Rattle.gq_parser.specs.Tree.{document_of}
use Rattle.schema_syntax.specs.declared.tree.Definition.{Definition}
use Rattle.gq_schema.specs.Types.{tree_of}
use Rattle.gq_check.specs.Verdict.{IsValid}
use Rattle.gq_check.proofs.validation.check.Goals as goal

pub of-requires : goal.of-requires
of-requires c =
    let same : c.deref.result.now ≡ arc_value c.in_ok-try_clone.field-0 = grind arith in
    subst (λ (ds : List Definition). IsValid (tree_of ds) (document_of c.args.document)) same c.in_ok-validate.ensures.ok

pub returns-clause-ok : goal.returns-clause-ok
returns-clause-ok c =
    let same : c.deref.result.now ≡ arc_value c.args.schema.now = grind arith in
    rw c.of.ensures (subst (λ (ds : List Definition). IsValid (tree_of ds) (document_of c.args.document)) same c.in_ok-validate.ensures.ok)
