use Rattle.std.proofs.Common.{◌≡◌, ◌∙◌, sym, ap, ◌+◌, ◌++◌, ◌∷◌, ℕ, List, drop, map, arith}
use Rattle.std.specs.Prelude.{filter}
use Rattle.gq_parser.specs.Tree.{Operation, operation_of}
use Rattle.merging_members.specs.Members.{count_in, count_operations, sets_in, operation_sets}
use Rattle.merging_members.specs.SetMembers.{is_clashing, clashing_of}
use Rattle.merging_fields.proofs.Joining.{more-sets, next-of}
use Rattle.merging_fields.proofs.clashing.add_operations.Goals as goal

pub add_clashing-requires : goal.add_clashing-requires
add_clashing-requires c =
    let i = c.loop-operation.operation-index in
    let xs = c.args.operations.now in
    let x = c.operation-item.result in
    let rest = map operation_of (drop (i + 1) xs) in
    let left : map operation_of (drop i xs) ≡ operation_of x ∷ rest = next-of operation_of xs i x c.loop-operation-test.true c.operation-item.is in
    let counts : count_operations (map operation_of (drop i xs)) ≡ count_in (operation_of x).selection_set + count_operations rest = ap count_operations left in
    record { inside = omega (arith, counts, c.loop-operation.invariant.counted, c.requires.inside) }

pub loop-operation-preserved : goal.loop-operation-preserved
loop-operation-preserved c =
    let walk = c.args.walk.now in
    let test = is_clashing walk.rows.now walk.numbers.now in
    let i = c.loop-operation.operation-index in
    let xs = c.args.operations.now in
    let x = c.operation-item.result in
    let n = c.loop-operation.next in
    let rest = map operation_of (drop (i + 1) xs) in
    let left : map operation_of (drop i xs) ≡ operation_of x ∷ rest = next-of operation_of xs i x c.loop-operation-test.true c.operation-item.is in
    let counts : count_operations (map operation_of (drop i xs)) ≡ count_in (operation_of x).selection_set + count_operations rest = ap count_operations left in
    let next = c.in_ok-next.ensures.next in
    record {
      sets = λ spread knows.
          let old = map (clashing_of spread) c.loop-operation.clashing.items in
          let new = map (clashing_of spread) c.add_clashing.new.clashing.items in
          ap (λ (k : ℕ). new ++ filter test (operation_sets spread k rest)) next
          ∙ (more-sets test old new (sets_in spread n (operation_of x).selection_set) (operation_sets spread (n + count_in (operation_of x).selection_set) rest) (c.in_ok-next.ensures.sets spread knows)
          ∙ (ap (λ (fs : List Operation). old ++ filter test (operation_sets spread n fs)) (sym left) ∙ c.loop-operation.invariant.sets spread knows));
      counted = omega (arith, counts, next, c.loop-operation.invariant.counted);
      inside = λ all. c.in_ok-next.ensures.inside (c.loop-operation.invariant.inside all);
    }
