-- Lemmas on what was found for a member among the unions.
use Rattle.std.proofs.Common.{◌≡◌, ◌∙◌, sym, ap, ℕ, false, List, [], map, bytes_eq, Option, Some, None}
use Rattle.std.specs.Global.{Vec}
use Rattle.std.specs.Borrow.{Bor}
use Rattle.std.specs.List.{list_any}
use Rattle.std.specs.Option.{option_map_or}
use Rattle.std.specs.HashMap.{HashMap, get_by}
use Rattle.schema_syntax.specs.declared.tree.Name as rust
use Rattle.gq_schema.specs.Possible.{text_of, is_among, has_union}

found : {S : Type 0} (unions : HashMap (Bor (List ℕ)) (Vec (Bor rust.Name)) S) (o q key : List ℕ) (r : Option (Vec (Bor rust.Name))) → key ≡ o → r ≡ get_by (λ k. bytes_eq key k.now) unions
    → has_union unions o q ≡ list_any (bytes_eq q) (map text_of (option_map_or (λ v. v.items) r []))
found unions o q key r same is =
    ap (λ (t : List ℕ). list_any (bytes_eq q) (map text_of (option_map_or (λ v. v.items) (get_by (λ k. bytes_eq t k.now) unions) []))) (sym same)
    ∙ ap (λ (x : Option (Vec (Bor rust.Name))). list_any (bytes_eq q) (map text_of (option_map_or (λ v. v.items) x []))) (sym is)

pub has_union-found : {S : Type 0} (unions : HashMap (Bor (List ℕ)) (Vec (Bor rust.Name)) S) (o q key : List ℕ) (v : Vec (Bor rust.Name)) → key ≡ o → Some v ≡ get_by (λ k. bytes_eq key k.now) unions → has_union unions o q ≡ is_among q v.items
has_union-found unions o q key v same is = found unions o q key (Some v) same is

pub has_union-missing : {S : Type 0} (unions : HashMap (Bor (List ℕ)) (Vec (Bor rust.Name)) S) (o q key : List ℕ) → key ≡ o → None ≡ get_by (λ k. bytes_eq key k.now) unions → has_union unions o q ≡ false
has_union-missing unions o q key same is = found unions o q key None same is
