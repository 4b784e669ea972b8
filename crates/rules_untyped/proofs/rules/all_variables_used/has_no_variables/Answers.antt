use Rattle.std.proofs.Common.{◌≡◌, ◌∙◌, sym, ap, refl, ℕ, ◌+◌, true, eqb, vec_len, List, [], ◌∷◌, ◌++◌, map, filter, rules, tests}
use Rattle.std.specs.List.{list_all}
use Rattle.std.proofs.lemmas.Bool.{and_parts, eqb-true}
use Rattle.std.proofs.lemmas.List.{nil_from_length}
use Rattle.std.proofs.lemmas.Iterator.{YieldsList-from_slice}
use Rattle.std.proofs.lemmas.Iterator.Search.{all_from_yields_List}
use Rattle.gq_parser.specs.declared.tree.VariableDefinition as rust-variable
use Rattle.gq_parser.specs.declared.tree.Operation as rust
use Rattle.gq_parser.specs.Tree.{operation_of, variables_of}
use Rattle.rules_parts.specs.Parts.{VariableUse}
use Rattle.rules_spreads.specs.Graphs.{GraphOf}
use Rattle.rules_untyped.specs.Named.{named_variable}
use Rattle.rules_untyped.specs.AllVariablesUsed.{is_unused, unused_variables}
use Rattle.rules_untyped.proofs.rules.all_variables_used.has_no_variables.Goals as goal

none_unused : (os : List rust.Operation) → list_all (λ (o : rust.Operation). eqb (vec_len o.variables) 0) os ≡ true → (g : GraphOf) (uses : List VariableUse) (i : ℕ) → unused_variables g uses i (map operation_of os) ≡ []
none_unused [] h g uses i = refl
none_unused (o ∷ os) h g uses i =
    let parts = and_parts (eqb (vec_len o.variables) 0) (list_all (λ (p : rust.Operation). eqb (vec_len p.variables) 0) os) h in
    let none : o.variables.items ≡ [] = nil_from_length o.variables.items (sym o.variables.ok.0 ∙ eqb-true (vec_len o.variables) 0 parts.0) in
    ap (λ (vs : List rust-variable.VariableDefinition). map named_variable (filter (is_unused g uses i) (variables_of vs)) ++ unused_variables g uses (i + 1) (map operation_of os)) none
    ∙ none_unused os parts.1 g uses (i + 1)

pub returns : goal.returns
returns c =
    let all = all_from_yields_List (λ (o : rust.Operation). eqb (vec_len o.variables) 0) _ _ c.all.result c.all.ensures.ran (YieldsList-from_slice c.args.operations.now cc) (λ x b q k. search (rules, tests)) in
    λ yes g uses i. none_unused c.args.operations.now (sym all ∙ yes) g uses i
