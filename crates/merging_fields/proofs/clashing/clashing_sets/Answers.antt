use Rattle.std.proofs.Common.{◌∙◌, sym, arith}
use Rattle.gq_parser.specs.Tree.{document_of}
use Rattle.merging_members.proofs.Learning.{fragment-there}
use Rattle.merging_fields.proofs.Sizes.{has-place}
use Rattle.merging_fields.proofs.clashing.clashing_sets.Goals as goal

pub invariant_of-walk-clause-there : goal.invariant_of-walk-clause-there
invariant_of-walk-clause-there c =
    let compared = c.args.compared.now in
    let grounds = compared.grounds in
    let d = document_of grounds.parts.now.document.now in
    λ name j at. let lt = (fragment-there name d.fragments j (sym (grounds.named name) ∙ at)).1 in omega (arith, lt, compared.there)

pub invariant_of-walk-clause-known : goal.invariant_of-walk-clause-known
invariant_of-walk-clause-known c = λ a h.
    let compared = c.args.compared.now in
    let grounds = compared.grounds in
    let whole = grounds.whole in
    let place = has-place grounds.order.now grounds.numbers.now grounds.inverse a (omega (arith, whole, h)) in
    let len = compared.len in
    let all = compared.all in
    omega (arith, place, len, all)
