use Rattle.std.proofs.Common.{◌≡◌, ◌+◌, [], ◌∷◌, ◌++◌, take, get_or, take-suc, add-one}
use Rattle.rules_parts.specs.Parts.{parts_in}
use Rattle.merging_fields.proofs.Twins.{numbered-push}
use Rattle.merging_fields.proofs.fields.numbered_fields.Goals as goal

pub loop-number-preserved : goal.loop-number-preserved
loop-number-preserved c = λ numbers spread own.
    let p = parts_in c.args.parts.now in
    let order = c.args.order.now in
    let i = c.loop-number.number-index in
    let a = get_or order i 0 in
    let more : take (i + 1) order ≡ take i order ++ a ∷ [] = rw add-one (take-suc order i 0 c.loop-number-test.true) in
    rw (c.in_ok-push.ensures.items, more) (numbered-push p numbers spread (take i order) c.loop-number.fields.items a c.field_with_numbers.result (c.loop-number.invariant numbers spread own) (λ f here. c.field_with_numbers.ensures numbers spread f own here))
