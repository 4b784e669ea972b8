use Rattle.std.proofs.Common.{◌≡◌, ◌∙◌, sym, ap, subst, ℕ, ◌+◌, List, length, map, arith}
use Rattle.gq_parser.specs.Tree.{document_of, operation_of}
use Rattle.gq_parser.specs.declared.tree.Operation as rust
use Rattle.merging_members.specs.Members.{capped, count_operations, count_fragments}
use Rattle.merging_members.specs.Placed.{AreReady}
use Rattle.merging_members.proofs.Placing.{operations-ready, all-placed}
use Rattle.merging_members.proofs.numbering.numbering_of.Goals as goal

pub returns : goal.returns
returns c =
    let d = document_of c.args.document.now in
    let order = c.place_fragments.new.numbering.order.items in
    let numbers = c.place_fragments.new.numbering.numbers.items in
    let done = c.in_ok-place_fragments.ensures.done in
    let all = c.requires.fragments.all in
    let read : c.operation_fields.result ≡ capped (count_operations d.operations) = c.operation_fields.ensures ∙ ap (λ (os : List rust.Operation). capped (count_operations (map operation_of os))) c.deref.ensures.value in
    let end : c.operation_fields.result ≡ count_operations d.operations = omega (arith, read, c.requires.few, c.requires.counted) in
    let ready : AreReady d order numbers 0 c.operation_fields.result = subst (λ (n : ℕ). AreReady d order numbers 0 n) (sym end) (operations-ready d c.args.fragments.now order numbers done all) in
    let vec : length c.in_ok-vec.field-0.items ≡ c.args.count = let len = c.in_ok-vec.ensures.len in let own = c.in_ok-vec.field-0.ok.0 in omega (arith, len, own) in
    let many : length c.place_all.new.numbering.numbers.items ≡ count_operations d.operations + count_fragments d.fragments =
    c.place_all.ensures.len ∙ (c.place_fragments.ensures.len ∙ (vec ∙ c.requires.counted)) in
    all-placed d c.args.fragments.now order numbers c.place_all.new.numbering.order.items c.place_all.new.numbering.numbers.items done all many c.in_ok-place_all.ensures.kept
    (λ a le lt. c.in_ok-place_all.ensures.own a le (omega (arith, lt, end))) (c.in_ok-place_all.ensures.placed d done.placed ready)
