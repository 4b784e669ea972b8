use Rattle.std.proofs.Common.{◌≡◌, ap, refl, ◌+◌, ◌∷◌, List, drop, drop_of_length-le, map, arith}
use Rattle.gq_parser.specs.Tree.{operation_of}
use Rattle.gq_parser.specs.declared.tree.Operation as rust
use Rattle.merging_members.specs.Members.{count_in, count_operations}
use Rattle.merging_members.proofs.Entering.{drop-next}
use Rattle.merging_members.proofs.counting.operation_fields.Goals as goal

pub loop-operation-preserved : goal.loop-operation-preserved
loop-operation-preserved c =
    let i = c.loop-operation.operation-index in
    let xs = c.args.operations.now in
    let x = c.operation-item.result in
    let rest = map operation_of (drop (i + 1) xs) in
    let left : map operation_of (drop i xs) ≡ operation_of x ∷ rest = ap (map operation_of) (drop-next xs xs i x refl c.loop-operation-test.true c.operation-item.is) in
    let counts : count_operations (map operation_of (drop i xs)) ≡ count_in (operation_of x).selection_set + count_operations rest = ap count_operations left in
    let sum = c.sum-count.ensures in
    let from = c.fields_in.ensures in
    record {
      counted = omega (arith, counts, sum, from, c.loop-operation.invariant.counted);
      fits = omega (arith, sum);
    }

pub returns : goal.returns
returns c =
    let none : count_operations (map operation_of (drop c.loop-operation.operation-index c.args.operations.now)) ≡ 0 = ap (λ (os : List rust.Operation). count_operations (map operation_of os)) (drop_of_length-le c.args.operations.now c.loop-operation-test.false) in
    omega (arith, none, c.loop-operation.invariant.counted, c.loop-operation.invariant.fits)
