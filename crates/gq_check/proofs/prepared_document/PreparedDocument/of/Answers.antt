use Rattle.std.proofs.Common.{◌≡◌, ◌∙◌, subst, sym, map, List}
use Rattle.std.specs.Arc.{arc_value}
use Rattle.gq_parser.specs.declared.tree.Fragment.{Fragment}
use Rattle.gq_parser.specs.declared.tree.Operation.{Operation}
use Rattle.gq_parser.specs.Tree.{document_of}
use Rattle.schema_syntax.specs.declared.tree.Definition.{Definition}
use Rattle.gq_schema.specs.Types.{tree_of}
use Rattle.gq_check.specs.Plans.{document_with}
use Rattle.gq_check.specs.Verdict.{IsValid}
use Rattle.gq_check.proofs.prepared_document.PreparedDocument.of.Goals as goal

pub invariant_of-result : goal.invariant_of-result
invariant_of-result c =
    let d = c.into_parts-schema.result.1 in
    let s = arc_value c.into_parts-schema.result.0 in
    let os : map arc_value c.in_ok-operations.operations.items ≡ d.operations.items = c.in_ok-operations.ensures in
    let fs : arc_value c.in_ok-fragments.fragments ≡ d.fragments.items = c.in_ok-fragments.ensures.ok ∙ c.in_ok-of.ensures in
    let own : IsValid (tree_of s) (document_of d) =
    subst (λ (ds : List Definition). IsValid (tree_of ds) (document_of d)) (sym c.into_parts-schema.ensures.schema) c.into_parts-schema.ensures.valid in
    subst (λ (x : List Operation). IsValid (tree_of s) (document_with x (arc_value c.in_ok-fragments.fragments))) (sym os)
    (subst (λ (x : List Fragment). IsValid (tree_of s) (document_with d.operations.items x)) (sym fs) own)
