use Rattle.std.proofs.Common.{◌∙◌, sym, ap, subst, length, arith}
use Rattle.merging_pairs.specs.Table.{IsBelow}
use Rattle.merging_members.specs.Members.{members_of_fragment}
use Rattle.rules_parts.specs.Parts.{parts_in}
use Rattle.merging_fields.proofs.Sizes.{as-many, has-place}
use Rattle.merging_fields.proofs.rules.field_selection_merging.compare.Goals as goal

pub failing_pairs-requires-clause-most : goal.failing_pairs-requires-clause-most
failing_pairs-requires-clause-most c =
    let g = c.args.grounds in
    let p = parts_in g.parts.now in
    let many = as-many p g.numbers.now (members_of_fragment p.document) g.order.now c.in_ok-fields.fields.items c.in_ok-fields.ensures.numbered in
    let read = ap length c.deref.ensures.value in
    let few = g.few in
    omega (arith, many, read, few)

pub invariant_of-source : goal.invariant_of-source
invariant_of-source c =
    let g = c.args.grounds in
    let p = parts_in g.parts.now in
    let many = as-many p g.numbers.now (members_of_fragment p.document) g.order.now c.in_ok-fields.fields.items c.in_ok-fields.ensures.numbered in
    let read = ap length c.deref.ensures.value in
    let rows = ap length c.deref-2.ensures.value in
    let len = c.in_ok-rows.ensures.len in
    let few = g.few in
    let whole = g.whole in
    let all = g.all in
    let count = g.counted in
    record {
      few = omega (arith, many, read, rows, len, few);
      below = subst IsBelow (sym c.deref-2.ensures.value) c.in_ok-rows.ensures.below;
      known = λ a h. let place = has-place g.order.now g.numbers.now g.inverse a (omega (arith, whole, h)) in omega (arith, many, read, rows, len, place);
      named = g.named;
      counted = omega (arith, whole, all, count);
      started = g.started;
    }

pub invariant_of-compared : goal.invariant_of-compared
invariant_of-compared c =
    let g = c.args.grounds in
    let p = parts_in g.parts.now in
    let many = as-many p g.numbers.now (members_of_fragment p.document) g.order.now c.in_ok-fields.fields.items c.in_ok-fields.ensures.numbered in
    let read = ap length c.deref.ensures.value in
    let fields = ap length c.deref-3.ensures.value in
    let rows = ap length c.deref-4.ensures.value in
    let len = c.in_ok-rows.ensures.len in
    record {
      len = omega (arith, read, fields, rows, len);
      all = omega (arith, many, fields);
      below = subst IsBelow (sym c.deref-4.ensures.value) c.in_ok-rows.ensures.below;
      there = ap length c.deref-5.ensures.value ∙ c.in_ok-known.ensures.len;
    }
