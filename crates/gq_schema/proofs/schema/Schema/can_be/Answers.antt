use Rattle.std.proofs.Common.{◌≡◌, ◌∙◌, ap, List, ℕ, [], Option, bytes_eq}
use Rattle.std.specs.List.{list_any}
use Rattle.std.specs.Option.{option_map_or}
use Rattle.gq_schema.specs.Indexes.{tree_in}
use Rattle.gq_schema.specs.Possible.{names_at}
use Rattle.gq_schema.proofs.TypeNameLists.{any-possible_names}
use Rattle.gq_schema.proofs.schema.Schema.can_be.Goals as goal

pub returns-in-Some : goal.returns-in-Some
returns-in-Some c =
    let q = c.args.ty.now in
    let n = c.args.object.now in
    let defs = tree_in c.self.inside.definitions.items in
    let here : c.in-Some.names.now ≡ names_at c.self.inside.possible q = ap (λ (o : Option (List (List ℕ))). option_map_or (λ names. names) o []) c.in-Some.ensures.value in
    rw (← c.self.view_is) (c.contains.ensures ∙ (ap (list_any (bytes_eq n)) (here ∙ c.self.invariant.found q) ∙ any-possible_names defs q n))

pub returns-in-None : goal.returns-in-None
returns-in-None c =
    let q = c.args.ty.now in
    let n = c.args.object.now in
    let defs = tree_in c.self.inside.definitions.items in
    let here : [] ≡ names_at c.self.inside.possible q = ap (λ (o : Option (List (List ℕ))). option_map_or (λ names. names) o []) c.in-None.ensures.value in
    rw (← c.self.view_is) (ap (list_any (bytes_eq n)) (here ∙ c.self.invariant.found q) ∙ any-possible_names defs q n)
