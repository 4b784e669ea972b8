use Rattle.std.proofs.Common.{◌≡◌, ◌∙◌, sym, ap, refl, eqb, vec_len, List, [], map, rules, tests}
use Rattle.std.proofs.lemmas.Bool.{eqb-true}
use Rattle.std.proofs.lemmas.List.{nil_from_length}
use Rattle.std.proofs.lemmas.Iterator.{YieldsList-from_slice}
use Rattle.std.proofs.lemmas.Iterator.Search.{all_from_yields_List}
use Rattle.gq_parser.specs.declared.tree.Operation as rust-operation
use Rattle.rules_parts.specs.declared.part.VariablePart as rust-variable
use Rattle.rules_parts.specs.declared.part.VariableUse as rust-use
use Rattle.rules_parts.specs.Parts.{parts_in, variable_part_of, use_of}
use Rattle.gq_check.proofs.Absent.{without-variables}
use Rattle.gq_check.proofs.rules.has_no_variables.Goals as goal

pub returns : goal.returns
returns c =
    let parts = c.args.parts.now in
    let os = parts.document.now.operations.items in
    let all = all_from_yields_List (λ (o : rust-operation.Operation). eqb (vec_len o.variables) 0) _ _ c.all.result c.all.ensures.ran (YieldsList-from_slice os cc) (λ x b q k. search (rules, tests)) in
    let uses : parts.uses.items ≡ [] = nil_from_length parts.uses.items (sym parts.uses.ok.0 ∙ eqb-true (vec_len parts.uses) 0 (sym c.is_empty.ensures ∙ c.if-not-is_empty.false)) in
    let variables : parts.variables.items ≡ [] = nil_from_length parts.variables.items (sym parts.variables.ok.0 ∙ eqb-true (vec_len parts.variables) 0 (sym c.is_empty-2.ensures ∙ c.if-not-is_empty-2.false)) in
    λ yes. without-variables (parts_in parts) os refl (sym all ∙ yes)
    (ap (λ (vs : List rust-variable.VariablePart). map variable_part_of vs) variables)
    (ap (λ (us : List rust-use.VariableUse). map use_of us) uses)
