use Rattle.std.proofs.Common.{◌≡◌, ap, sym, refl, ◌<◌, length, List, [], ◌∷◌, map, Option, Some, None, arith}
use Rattle.std.specs.List.{cons_option, filter_map}
use Rattle.gq_parser.specs.declared.tree.Operation as rust
use Rattle.gq_parser.specs.Tree.{operation_of}
use Rattle.rules_parts.specs.Broken.{BrokenOf, earliest}
use Rattle.rules_untyped.specs.Repeated.{repeated}
use Rattle.rules_untyped.specs.Scans.{has_text}
use Rattle.rules_untyped.specs.OperationNameUniqueness.{named_operation}
use Rattle.rules_untyped.proofs.ScanLaws.{left-all}
use Rattle.rules_untyped.proofs.rules.operation_name_uniqueness.operation_name_uniqueness.Goals as goal

lone-name : (name : Option BrokenOf) → repeated (cons_option name []) ≡ []
lone-name None = refl
lone-name (Some n) = refl

-- no name of fewer than two operations stands a second time
none-repeated : (os : List rust.Operation) → length os < 2 → earliest (repeated (filter_map named_operation (map operation_of os))) ≡ None
none-repeated [] few = refl
none-repeated (o ∷ []) few = ap earliest (lone-name (named_operation (operation_of o)))
none-repeated (o ∷ q ∷ os) few = absurd (omega (arith, few))

pub returns-then-len-lt2 : goal.returns-then-len-lt2
returns-then-len-lt2 c =
    let operations = c.args.parts.now.document.now.operations in
    let own = operations.ok.0 in
    let read = c.len.ensures in
    let few = c.if-len-lt2.true in
    let lt : length operations.items < 2 = omega (arith, own, read, few) in
    sym (none-repeated operations.items lt)

pub loop-operation-init : goal.loop-operation-init
loop-operation-init c =
    rw c.new-earliest.ensures (left-all (has_text c.new-names.result) None (filter_map named_operation (map operation_of c.deref-operation-items.result.now)) (λ q. rw c.new-names.ensures.empty))
