use Rattle.std.proofs.Common.{◌≡◌, ◌∙◌, sym, ap, subst, refl, ◌+◌, ◌++◌, [], ◌∷◌, List, length, map, drop, drop_of_length-le, arith}
use Rattle.std.proofs.lemmas.List.{map-append}
use Rattle.gq_parser.specs.Tree.{Below, Operation, operation_of}
use Rattle.gq_parser.specs.declared.tree.Operation as rust
use Rattle.merging_members.specs.Members.{count_in, count_operations}
use Rattle.merging_members.specs.Written.{written_in, written_operations, own_below, belows}
use Rattle.merging_members.proofs.Adding.{Adding, adding-none, adding-more, adding-all, belows-length, in-count}
use Rattle.merging_members.proofs.Entering.{drop-next}
use Rattle.merging_members.proofs.gathering.gather_operations.Goals as goal

pub loop-operation-init : goal.loop-operation-init
loop-operation-init c = record {
  counted = omega arith;
  added = λ spread knows. adding-none c.args.walk.now.numbers.now (belows (written_operations (map operation_of c.args.operations.now))) spread 0 c.args.rows.now.items;
}

pub loop-operation-preserved : goal.loop-operation-preserved
loop-operation-preserved c =
    let numbers = c.args.walk.now.numbers.now in
    let i = c.loop-operation.operation-index in
    let xs = c.args.operations.now in
    let x = c.operation-item.result in
    let n = c.loop-operation.next in
    let rest = map operation_of (drop (i + 1) xs) in
    let left : map operation_of (drop i xs) ≡ operation_of x ∷ rest = ap (map operation_of) (drop-next xs xs i x refl c.loop-operation-test.true c.operation-item.is) in
    let set = (operation_of x).selection_set in
    let here : List Below = belows (written_in set) in
    let counts : count_operations (map operation_of (drop i xs)) ≡ count_in set + count_operations rest = ap count_operations left in
    let parts : belows (written_operations (map operation_of (drop i xs))) ≡ here ++ belows (written_operations rest) =
    ap (λ (os : List Operation). belows (written_operations os)) left ∙ map-append own_below (written_in set) (written_operations rest) in
    let next = c.in_ok-next.ensures.next in
    let many : c.in_ok-next.field-0.next ≡ n + length here = next ∙ ap (λ k. n + k) (sym (belows-length (written_in set) ∙ in-count set)) in
    record {
      counted = omega (arith, counts, next, c.loop-operation.invariant.counted);
      added = λ spread knows.
          let all = belows (written_operations (map operation_of xs)) in
          let old = c.args.rows.now.items in
          let a : Adding numbers all spread 0 n (here ++ belows (written_operations rest)) old c.loop-operation.rows.items =
          subst (λ (bs : List Below). Adding numbers all spread 0 n bs old c.loop-operation.rows.items) parts (c.loop-operation.invariant.added spread knows) in
          adding-more numbers all spread 0 n c.in_ok-next.field-0.next here (belows (written_operations rest)) old c.loop-operation.rows.items c.gather_set.new.rows.items a many (c.in_ok-next.ensures.rows spread knows);
    }

pub returns-clause-rows : goal.returns-clause-rows
returns-clause-rows c = λ spread knows.
    let numbers = c.args.walk.now.numbers.now in
    let xs = c.args.operations.now in
    let all = belows (written_operations (map operation_of xs)) in
    let n = c.loop-operation.next in
    let old = c.args.rows.now.items in
    let new = c.loop-operation.rows.items in
    let a : Adding numbers all spread 0 n [] old new =
    subst (λ (os : List rust.Operation). Adding numbers all spread 0 n (belows (written_operations (map operation_of os))) old new) (drop_of_length-le xs c.loop-operation-test.false) (c.loop-operation.invariant.added spread knows) in
    adding-all numbers all spread 0 n old new a
