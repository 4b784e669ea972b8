use Rattle.std.proofs.Common.{◌≡◌, ◌∙◌, ap, List, ℕ, [], Option, Some}
use Rattle.std.specs.Option.{option_map_or}
use Rattle.schema_syntax.specs.declared.tree.Definition.{Definition}
use Rattle.gq_schema.specs.Possible.{names_at}
use Rattle.gq_schema.specs.Types.{possible_names, tree_of}
use Rattle.gq_schema.proofs.TypeNameLists.{possible_in-composite}
use Rattle.gq_schema.proofs.schema.Schema.possible_types.Goals as goal

pub returns-in-Some : goal.returns-in-Some
returns-in-Some c =
    let q = c.args.ty.now in
    let here : c.in-Some.names.now ≡ names_at c.self.inside.possible q = ap (λ (o : Option (List (List ℕ))). option_map_or (λ names. names) o []) c.in-Some.ensures.value in
    let names = c.as_slice.ensures ∙ (here ∙ (c.self.invariant.found q ∙ ap (λ (ds : List Definition). possible_names (tree_of ds) q) c.self.view_is)) in
    ap (λ (ns : List (List ℕ)). Some ns) names ∙ possible_in-composite (tree_of c.args.self.now) q c.in_ok-kind.kind c.in_ok-kind.ensures c.if-is_leaf.ensures

pub returns-in-None : goal.returns-in-None
returns-in-None c =
    let q = c.args.ty.now in
    let here : [] ≡ names_at c.self.inside.possible q = ap (λ (o : Option (List (List ℕ))). option_map_or (λ names. names) o []) c.in-None.ensures.value in
    let names = here ∙ (c.self.invariant.found q ∙ ap (λ (ds : List Definition). possible_names (tree_of ds) q) c.self.view_is) in
    ap (λ (ns : List (List ℕ)). Some ns) names ∙ possible_in-composite (tree_of c.args.self.now) q c.in_ok-kind.kind c.in_ok-kind.ensures c.if-is_leaf.ensures
