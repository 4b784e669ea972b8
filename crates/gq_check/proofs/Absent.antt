-- Where there are no variables, no rule on them is broken.
use Rattle.std.proofs.Common.{◌≡◌, ◌∙◌, sym, ap, refl, ℕ, ◌+◌, Bool, true, eqb, vec_len, List, [], ◌∷◌, ◌++◌, map, filter, Option, None}
use Rattle.std.specs.Prelude.{flat_map, filter_map}
use Rattle.std.specs.List.{list_all}
use Rattle.std.proofs.lemmas.Bool.{and_parts, eqb-true}
use Rattle.std.proofs.lemmas.List.{nil_from_length}
use Rattle.gq_parser.specs.Tree.{Operation, operation_of, variables_of}
use Rattle.gq_parser.specs.declared.tree.VariableDefinition as rust-variable
use Rattle.gq_parser.specs.declared.tree.Operation as rust-operation
use Rattle.gq_schema.specs.Scan.{or_else}
use Rattle.rules_parts.specs.Broken.{BrokenOf}
use Rattle.rules_parts.specs.Parts.{PartsOf, VariablePart, VariableUse}
use Rattle.rules_spreads.specs.Graphs.{GraphOf, graph_of}
use Rattle.rules_untyped.specs.Named.{named_variable}
use Rattle.rules_untyped.specs.Repeated.{repeated}
use Rattle.rules_untyped.specs.VariableReach.{named_use}
use Rattle.rules_untyped.specs.VariableUniqueness.{repeated_variables, variable_uniqueness}
use Rattle.rules_untyped.specs.AllVariableUsesDefined.{one_lacks, all_variable_uses_defined}
use Rattle.rules_untyped.specs.AllVariablesUsed.{is_unused as is_unused_variable, unused_variables, all_variables_used}
use Rattle.rules_typed.specs.VariablesAreInputTypes.{non_input_variable, variables_are_input_types}
use Rattle.rules_typed.specs.AllVariableUsagesAreAllowed.{forbidden_usage, all_variable_usages_are_allowed}
use Rattle.gq_check.specs.declared.fault.Rule.{Rule}
use Rattle.gq_check.specs.declared.fault.Rule.TheVariants as rule
use Rattle.gq_check.specs.Verdict.{FaultOf, report, variables_fault}

-- a rule that nothing breaks reports nothing, and the next decides
next : (r : Rule) (bs : List BrokenOf) (others : Option FaultOf) → bs ≡ [] → others ≡ None → or_else (report r bs) others ≡ None
next r bs others e h = ap (λ (b : List BrokenOf). or_else (report r b) others) e ∙ h

last : (r : Rule) (bs : List BrokenOf) → bs ≡ [] → report r bs ≡ None
last r bs e = ap (λ (b : List BrokenOf). report r b) e

abbrev has_none : rust-operation.Operation → Bool
has_none o = eqb (vec_len o.variables) 0

own-none : (o : rust-operation.Operation) → has_none o ≡ true → o.variables.items ≡ []
own-none o h = nil_from_length o.variables.items (sym o.variables.ok.0 ∙ eqb-true (vec_len o.variables) 0 h)

none-repeated : (os : List rust-operation.Operation) → list_all has_none os ≡ true → flat_map repeated_variables (map operation_of os) ≡ []
none-repeated [] h = refl
none-repeated (o ∷ os) h =
    let both = and_parts (has_none o) (list_all has_none os) h in
    ap (λ (vs : List rust-variable.VariableDefinition). repeated (map named_variable (variables_of vs)) ++ flat_map repeated_variables (map operation_of os)) (own-none o both.0)
    ∙ none-repeated os both.1

none-unused : (g : GraphOf) (uses : List VariableUse) (i : ℕ) (os : List rust-operation.Operation) → list_all has_none os ≡ true → unused_variables g uses i (map operation_of os) ≡ []
none-unused g uses i [] h = refl
none-unused g uses i (o ∷ os) h =
    let both = and_parts (has_none o) (list_all has_none os) h in
    ap (λ (vs : List rust-variable.VariableDefinition). map named_variable (filter (is_unused_variable g uses i) (variables_of vs)) ++ unused_variables g uses (i + 1) (map operation_of os)) (own-none o both.0)
    ∙ none-unused g uses (i + 1) os both.1

pub without-variables : (p : PartsOf) (os : List rust-operation.Operation) → p.document.operations ≡ map operation_of os → list_all (λ (o : rust-operation.Operation). eqb (vec_len o.variables) 0) os ≡ true
    → p.variables ≡ [] → p.uses ≡ [] → variables_fault p ≡ None
without-variables p os are none variables uses =
    next rule.VariableUniqueness (variable_uniqueness p) _ (ap (λ (qs : List Operation). flat_map repeated_variables qs) are ∙ none-repeated os none)
    (next rule.VariablesAreInputTypes (variables_are_input_types p) _ (ap (λ (vs : List VariablePart). filter_map (non_input_variable p.definitions) vs) variables)
    (next rule.AllVariableUsesDefined (all_variable_uses_defined p) _ (ap (λ (us : List VariableUse). map named_use (filter (one_lacks (graph_of p) 0 p.document.operations) us)) uses)
    (next rule.AllVariablesUsed (all_variables_used p) _ (ap (λ (qs : List Operation). unused_variables (graph_of p) p.uses 0 qs) are ∙ none-unused (graph_of p) p.uses 0 os none)
    (last rule.AllVariableUsagesAreAllowed (all_variable_usages_are_allowed p) (ap (λ (us : List VariableUse). filter_map (forbidden_usage (graph_of p) p.document.operations) us) uses)))))
