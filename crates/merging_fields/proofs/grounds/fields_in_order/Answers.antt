use Rattle.std.proofs.Common.{◌≡◌, ◌∙◌, sym, ap, subst, ℕ, List, length, arith}
use Rattle.std.proofs.Math.Logic.{∥∥₁_elim}
use Rattle.std.specs.Coded.{le_prop}
use Rattle.gq_parser.specs.Tree.{document_of}
use Rattle.merging_pairs.specs.declared.sets.ReachedFields.{ReachedFields}
use Rattle.merging_pairs.specs.Table.{IsBelow}
use Rattle.merging_members.specs.Fragments.{place_in, target_at}
use Rattle.merging_members.specs.Members.{members_of_fragment}
use Rattle.merging_members.specs.SetMembers.{KnowsAt, Knows}
use Rattle.merging_members.specs.Written.{written_fields, belows, AreOwn}
use Rattle.merging_members.proofs.Adding.{belows-length}
use Rattle.merging_members.proofs.Learning.{fragment-there}
use Rattle.merging_members.proofs.Places.{fields-count}
use Rattle.rules_parts.specs.Parts.{parts_in}
use Rattle.merging_fields.proofs.InOrder.{in-order, own-length}
use Rattle.merging_fields.proofs.Sizes.{as-many, has-place}
use Rattle.merging_fields.proofs.grounds.fields_in_order.Goals as goal

pub invariant_of-walk-clause-known : goal.invariant_of-walk-clause-known
invariant_of-walk-clause-known c = λ a h.
    let g = c.args.grounds.now in
    let whole = g.whole in
    let place = has-place g.order.now g.numbers.now g.inverse a (omega (arith, whole, h)) in
    let rows = ap length c.deref-2.ensures.value in
    let len = c.in_ok-blank.ensures.len in
    omega (arith, place, rows, len)

pub invariant_of-walk-clause-below : goal.invariant_of-walk-clause-below
invariant_of-walk-clause-below c = subst IsBelow (sym c.deref-2.ensures.value) c.in_ok-blank.ensures.below

pub invariant_of-walk-clause-there : goal.invariant_of-walk-clause-there
invariant_of-walk-clause-there c = λ name j at.
    let g = c.args.grounds.now in
    let d = document_of g.parts.now.document.now in
    let lt = (fragment-there name d.fragments j (sym (g.named name) ∙ at)).1 in
    let len = ap length c.deref-3.ensures.value ∙ c.in_ok-known.ensures.len in
    omega (arith, lt, len)

pub numbered_fields-requires-clause-there : goal.numbered_fields-requires-clause-there
numbered_fields-requires-clause-there c = λ k a at.
    let g = c.args.grounds.now in
    let placed = g.placed in
    let there = (placed.back k a at).0 in
    let whole = g.whole in
    let all = g.all in
    omega (arith, there, whole, all)

pub numbered_fields-requires-clause-len : goal.numbered_fields-requires-clause-len
numbered_fields-requires-clause-len c =
    let g = c.args.grounds.now in
    let d = document_of g.parts.now.document.now in
    let numbers = g.numbers.now in
    let spread = members_of_fragment d in
    let rows : c.deref.result.now ≡ c.deref-2.result.now = c.deref.ensures.value ∙ sym c.deref-2.ensures.value in
    let learned : Knows c.deref-2.result.now numbers c.in_ok-known.known.items (place_in d.fragments) spread =
    subst (λ (rs : List (List ℕ)). Knows rs numbers c.in_ok-known.known.items (place_in d.fragments) spread) rows c.in_ok-known.ensures.known in
    let placed : Knows c.deref-2.result.now numbers c.deref-3.result.now (place_in d.fragments) spread =
    subst (λ (fs : List ReachedFields). Knows c.deref-2.result.now numbers fs (place_in d.fragments) spread) (sym c.deref-3.ensures.value) learned in
    let knows : Knows c.deref-2.result.now numbers c.deref-3.result.now (target_at g.targets.now) spread =
    λ q. subst (KnowsAt c.deref-2.result.now numbers c.deref-3.result.now (spread q)) (sym (g.named q)) (placed q) in
    let own : AreOwn numbers spread 0 (belows (written_fields d)) c.deref-4.result.now =
    subst (λ (rs : List (List ℕ)). AreOwn numbers spread 0 (belows (written_fields d)) rs) (sym c.deref-4.ensures.value) (c.in_ok-members.ensures spread knows) in
    let len = own-length numbers spread 0 (belows (written_fields d)) c.deref-4.result.now own in
    let written = belows-length (written_fields d) in
    let count = fields-count d in
    let counted = g.counted in
    omega (arith, len, written, count, counted)

pub returns-clause-numbered : goal.returns-clause-numbered
returns-clause-numbered c =
    let g = c.args.grounds.now in
    let d = document_of g.parts.now.document.now in
    let numbers = g.numbers.now in
    let spread = members_of_fragment d in
    let rows : c.deref.result.now ≡ c.deref-2.result.now = c.deref.ensures.value ∙ sym c.deref-2.ensures.value in
    let learned : Knows c.deref-2.result.now numbers c.in_ok-known.known.items (place_in d.fragments) spread =
    subst (λ (rs : List (List ℕ)). Knows rs numbers c.in_ok-known.known.items (place_in d.fragments) spread) rows c.in_ok-known.ensures.known in
    let placed : Knows c.deref-2.result.now numbers c.deref-3.result.now (place_in d.fragments) spread =
    subst (λ (fs : List ReachedFields). Knows c.deref-2.result.now numbers fs (place_in d.fragments) spread) (sym c.deref-3.ensures.value) learned in
    let knows : Knows c.deref-2.result.now numbers c.deref-3.result.now (target_at g.targets.now) spread =
    λ q. subst (KnowsAt c.deref-2.result.now numbers c.deref-3.result.now (spread q)) (sym (g.named q)) (placed q) in
    let own : AreOwn numbers spread 0 (belows (written_fields d)) c.deref-4.result.now =
    subst (λ (rs : List (List ℕ)). AreOwn numbers spread 0 (belows (written_fields d)) rs) (sym c.deref-4.ensures.value) (c.in_ok-members.ensures spread knows) in
    c.in_ok-fields.ensures numbers spread own

pub returns-clause-order : goal.returns-clause-order
returns-clause-order c = λ b e member.
    let g = c.args.grounds.now in
    let d = document_of g.parts.now.document.now in
    let numbers = g.numbers.now in
    let spread = members_of_fragment d in
    let rows : c.deref.result.now ≡ c.deref-2.result.now = c.deref.ensures.value ∙ sym c.deref-2.ensures.value in
    let learned : Knows c.deref-2.result.now numbers c.in_ok-known.known.items (place_in d.fragments) spread =
    subst (λ (rs : List (List ℕ)). Knows rs numbers c.in_ok-known.known.items (place_in d.fragments) spread) rows c.in_ok-known.ensures.known in
    let placed : Knows c.deref-2.result.now numbers c.deref-3.result.now (place_in d.fragments) spread =
    subst (λ (fs : List ReachedFields). Knows c.deref-2.result.now numbers fs (place_in d.fragments) spread) (sym c.deref-3.ensures.value) learned in
    let knows : Knows c.deref-2.result.now numbers c.deref-3.result.now (target_at g.targets.now) spread =
    λ q. subst (KnowsAt c.deref-2.result.now numbers c.deref-3.result.now (spread q)) (sym (g.named q)) (placed q) in
    let own : AreOwn numbers spread 0 (belows (written_fields d)) c.deref-4.result.now =
    subst (λ (rs : List (List ℕ)). AreOwn numbers spread 0 (belows (written_fields d)) rs) (sym c.deref-4.ensures.value) (c.in_ok-members.ensures spread knows) in
    let p = parts_in g.parts.now in
    let are = c.in_ok-fields.ensures numbers spread own in
    let whole = g.whole in
    let all = g.all in
    ∥∥₁_elim g.parts.now.listed le_prop (λ listed. in-order p numbers g.order.now c.in_ok-fields.fields.items are (as-many p numbers spread g.order.now c.in_ok-fields.fields.items are) listed (whole ∙ all) g.placed b e member)
