use Rattle.std.proofs.Common.{◌∙◌, ap, subst, ◌<◌, List, length, get_or}
use Rattle.std.proofs.Math.Logic.{∥∥₁_elim}
use Rattle.std.specs.Coded.{Coded-set, coded_ℕ, coded_list, coded_option}
use Rattle.gq_parser.specs.Tree.{document_of}
use Rattle.gq_schema.specs.Types.{tree_of}
use Rattle.rules_parts.specs.declared.part.FieldPart as rust
use Rattle.rules_typed.proofs.Insides.{inside-at}
use Rattle.rules_typed.proofs.rules.leaf_field_selections.leaf_field_selections.Goals as goal

pub misfit_field-requires : goal.misfit_field-requires
misfit_field-requires c =
    let parts = c.args.parts.now in
    let x = c.part-item.result in
    let i = c.loop-part.part-index in
    let read = c.deref-part-items.ensures.value in
    let lt : i < length parts.fields.items = subst (λ (xs : List rust.FieldPart). i < length xs) read c.loop-part-test.true in
    ∥∥₁_elim parts.listed (Coded-set (coded_option (coded_list coded_ℕ)) _ _)
    (λ listed. inside-at (tree_of parts.schema.now) (document_of parts.document.now) parts.fields.items listed i x lt (c.part-item.is ∙ ap (λ (xs : List rust.FieldPart). get_or xs i x) read))
