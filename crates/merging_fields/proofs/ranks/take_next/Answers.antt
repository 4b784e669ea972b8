use Rattle.std.proofs.Common.{◌≡◌, ◌∙◌, sym, ap, refl, ◌<◌, Bool, true, List, length, set, arith}
use Rattle.rules_parts.specs.declared.part.Owner.TheVariants as owner
use Rattle.rules_spreads.specs.Graphs.{row}
use Rattle.merging_fields.specs.Orders.{are_marked}
use Rattle.merging_fields.proofs.Ordering.{part-more}
use Rattle.merging_fields.proofs.ranks.take_next.Goals as goal

pub returns-clause-part : goal.returns-clause-part
returns-clause-part c =
    let g = c.args.graph.now in
    let x = c.args.fragment in
    let marks = c.args.taken.now.items in
    let test = c.if-fragment-len.false in
    let many = c.len.ensures in
    let lt : x < length g.fragments = omega (arith, test, many) in
    let taken : c.deref-2.result.now ≡ marks = c.deref-2.ensures.value in
    let spreads : c.row.result.now ≡ row g (owner.Fragment x) = c.row.ensures.row in
    let ready : are_marked marks (row g (owner.Fragment x)) ≡ true =
    ap (λ (ms : List Bool). are_marked ms (row g (owner.Fragment x))) (sym taken) ∙ (ap (are_marked c.deref-2.result.now) (sym spreads) ∙ (sym c.are_marked.ensures ∙ c.if-not-are_marked.false)) in
    part-more g c.args.order.now.items c.push.new.self.items marks (set marks x true) x c.requires.part lt ready c.in_ok-push.ensures.items refl
