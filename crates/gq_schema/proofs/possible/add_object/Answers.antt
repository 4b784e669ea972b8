use Rattle.std.proofs.Common.{◌≡◌, false, refl, bytes_eq, string_bytes}
use Rattle.std.specs.List.{list_any}
use Rattle.schema_syntax.specs.Tree.{names_of}
use Rattle.gq_schema.specs.Types.{is_called}
use Rattle.gq_schema.specs.Possible.{names_at, is_among, has_union}
use Rattle.gq_schema.proofs.TypeNameLists.{with_name_if-three}
use Rattle.gq_schema.proofs.UnionLaws.{has_union-found, has_union-missing}
use Rattle.gq_schema.proofs.possible.add_object.Goals as goal

pub returns-in_ok-add_to_unions : goal.returns-in_ok-add_to_unions
returns-in_ok-add_to_unions c = λ q.
    let n = string_bytes c.args.object.now.name.text in
    let old = names_at c.args.possible.now q in
    let one = names_at c.add_to.new.possible q in
    let two = names_at c.add_to_each.new.possible q in
    let same : has_union c.args.unions.now n q ≡ is_among q c.in-Some.unions.now.items = has_union-found c.args.unions.now n q _ _ c.as_str.ensures.value c.in-Some.ensures.value in
    with_name_if-three (bytes_eq q n) (list_any (is_called q) (names_of c.args.object.now.interfaces.items)) (has_union c.args.unions.now n q) one two _ old n
    (c.in_ok-add_to.ensures q) (rw c.deref.ensures.value at (c.in_ok-add_to_each.ensures q)) (rw (same, ← c.deref-in-Some.ensures.value) (c.in_ok-add_to_unions.ensures q))

pub returns-in_default : goal.returns-in_default
returns-in_default c = λ q.
    let n = string_bytes c.args.object.now.name.text in
    let old = names_at c.args.possible.now q in
    let one = names_at c.add_to.new.possible q in
    let two = names_at c.add_to_each.new.possible q in
    let none : has_union c.args.unions.now n q ≡ false = has_union-missing c.args.unions.now n q _ c.as_str.ensures.value c.in_default.ensures.value in
    with_name_if-three (bytes_eq q n) (list_any (is_called q) (names_of c.args.object.now.interfaces.items)) (has_union c.args.unions.now n q) one two two old n
    (c.in_ok-add_to.ensures q) (rw c.deref.ensures.value at (c.in_ok-add_to_each.ensures q)) (rw none refl)
