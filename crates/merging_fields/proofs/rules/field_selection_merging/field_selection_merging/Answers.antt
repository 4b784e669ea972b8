use Rattle.std.proofs.Common.{◌≡◌, ◌∙◌, sym, ap, subst, refl, ℕ, ◌+◌, [], List, length, map, arith}
use Rattle.std.specs.Prelude.{IfOk}
use Rattle.std.specs.Option.{option_map}
use Rattle.gq_parser.specs.Tree.{document_of, operation_of, fragment_of}
use Rattle.gq_parser.specs.declared.tree.Operation as rust-operation
use Rattle.gq_parser.specs.declared.tree.Fragment as rust-fragment
use Rattle.std.proofs.lemmas.List.{length-map}
use Rattle.merging_members.specs.Fragments.{place_in}
use Rattle.merging_members.specs.Members.{capped, count_operations, count_fragments, starts_from, members_of_fragment}
use Rattle.merging_members.specs.Ranked.{AreRanked, IsOrder}
use Rattle.merging_members.specs.SetMembers.{IsFixed}
use Rattle.merging_members.proofs.Depth.{depth, all-deep}
use Rattle.merging_members.proofs.RankedLaws.{ranked-fixed}
use Rattle.rules_parts.specs.Broken.{broken_of}
use Rattle.rules_parts.specs.Listing.{parts_of}
use Rattle.rules_parts.specs.Parts.{PartsOf, parts_in, field_part_of}
use Rattle.rules_parts.specs.declared.parts.Parts as rust
use Rattle.rules_spreads.specs.Graphs.{GraphOf, graph_of}
use Rattle.rules_spreads.specs.Rules.{fragment_spreads_must_not_form_cycles}
use Rattle.merging_fields.specs.Orders.{IsFree, IsGraphOrder}
use Rattle.merging_fields.specs.FieldSelectionMerging.{IsMerging}
use Rattle.merging_fields.proofs.Acyclic.{one-place, free-of, ranks, are-ranked}
use Rattle.merging_fields.proofs.Listed.{counted}
use Rattle.merging_fields.proofs.Merged.{all-merged}
use Rattle.merging_fields.proofs.Ordering.{is-free, order-of}
use Rattle.merging_fields.proofs.rules.field_selection_merging.field_selection_merging.Goals as goal

-- says what is known of a document whose parts are listed, and whose fragments don't reach
-- themselves
record IsKnown (p : PartsOf) (g : GraphOf) : Type 0 where
  free : IsFree g
  order : (order : List ℕ) → IsGraphOrder g order → IsOrder order (place_in p.document.fragments) p.document.fragments
  ranked : AreRanked (place_in p.document.fragments) p.document.fragments
  fixed : IsFixed (members_of_fragment p.document) p.document
  count : count_operations p.document.operations + count_fragments p.document.fragments ≡ length p.fields

known : (p : PartsOf) (g : GraphOf) → p ≡ parts_of p.definitions p.document → g ≡ graph_of p → fragment_spreads_must_not_form_cycles p ≡ [] → IsKnown p g
known p g listed graph cycles =
    let defs = p.definitions in
    let d = p.document in
    let none : fragment_spreads_must_not_form_cycles (parts_of defs d) ≡ [] = ap fragment_spreads_must_not_form_cycles (sym listed) ∙ cycles in
    let whole : g ≡ graph_of (parts_of defs d) = graph ∙ ap graph_of listed in
    let free = free-of defs d none in
    let ranked = are-ranked defs d free in
    record {
      free = subst IsFree (sym whole) (is-free defs d none);
      order = λ order is. order-of defs d none order (subst (λ (h : GraphOf). IsGraphOrder h order) whole is);
      ranked = (ranks defs d free, ranked);
      fixed = ranked-fixed (ranks defs d free) (place_in d.fragments) d (λ q. refl) ranked;
      count = counted defs d p.fields (ap (λ (q : PartsOf). q.fields) listed);
    }

pub returns-then-branch : goal.returns-then-branch
returns-then-branch c =
    let p = parts_in c.args.parts.now in
    let rests = known (parts_in c.args.parts.now) c.args.graph.now c.requires.listed c.requires.graph c.requires.cycles in
    let ranks = rests.ranked.0 in
    let ranked = rests.ranked.1 in
    all-merged p (ap (λ (q : PartsOf). q.fields) c.requires.listed) (c.in_ok-agree_by_key.ensures c.if-branch.true) (depth p.document ranks ranked rests.fixed) (all-deep p.document ranks ranked rests.fixed)

pub rank_fragments-requires : goal.rank_fragments-requires
rank_fragments-requires c = record { free = (known (parts_in c.args.parts.now) c.args.graph.now c.requires.listed c.requires.graph c.requires.cycles).free }

pub fragment_starts-requires : goal.fragment_starts-requires
fragment_starts-requires c =
    let count = (known (parts_in c.args.parts.now) c.args.graph.now c.requires.listed c.requires.graph c.requires.cycles).count in
    let read = c.operation_fields-first.ensures ∙ ap (λ (os : List rust-operation.Operation). capped (count_operations (map operation_of os))) c.deref.ensures.value in
    let others = ap (λ (fs : List rust-fragment.Fragment). count_fragments (map fragment_of fs)) c.deref-2.ensures.value in
    omega (arith, count, read, others, c.requires.few)

pub numbering_of-requires-clause-counted : goal.numbering_of-requires-clause-counted
numbering_of-requires-clause-counted c =
    let count = (known (parts_in c.args.parts.now) c.args.graph.now c.requires.listed c.requires.graph c.requires.cycles).count in
    let fields = c.args.parts.now.fields in
    let many = length-map fields.items field_part_of in
    let own = fields.ok.0 in
    let read = c.len.ensures in
    omega (arith, count, many, own, read)

pub numbering_of-requires-clause-started : goal.numbering_of-requires-clause-started
numbering_of-requires-clause-started c =
    let d = document_of c.args.parts.now.document.now in
    let count = (known (parts_in c.args.parts.now) c.args.graph.now c.requires.listed c.requires.graph c.requires.cycles).count in
    let read = c.operation_fields-first.ensures ∙ ap (λ (os : List rust-operation.Operation). capped (count_operations (map operation_of os))) c.deref.ensures.value in
    let first : c.operation_fields-first.result ≡ count_operations d.operations = omega (arith, count, read, c.requires.few) in
    c.deref-3.ensures.value ∙ (c.in_ok-starts.ensures ∙ (ap (λ (n : ℕ). starts_from n (map fragment_of c.deref-2.result.now)) first ∙ ap (λ (fs : List rust-fragment.Fragment). starts_from (count_operations d.operations) (map fragment_of fs)) c.deref-2.ensures.value))

pub numbering_of-requires-clause-fragments : goal.numbering_of-requires-clause-fragments
numbering_of-requires-clause-fragments c =
    let d = document_of c.args.parts.now.document.now in
    let order = (known (parts_in c.args.parts.now) c.args.graph.now c.requires.listed c.requires.graph c.requires.cycles).order c.in_ok-fragments.fragments.items c.in_ok-fragments.ensures in
    subst (λ (o : List ℕ). IsOrder o (place_in d.fragments) d.fragments) (sym c.deref-4.ensures.value) order

pub numbering_of-requires-clause-fixed : goal.numbering_of-requires-clause-fixed
numbering_of-requires-clause-fixed c = (known (parts_in c.args.parts.now) c.args.graph.now c.requires.listed c.requires.graph c.requires.cycles).fixed

pub grounds_of-grounds-requires-clause-named : goal.grounds_of-grounds-requires-clause-named
grounds_of-grounds-requires-clause-named c = λ name.
    c.fragment_numbers.ensures name ∙ sym (one-place 0 name (document_of c.args.parts.now.document.now).fragments)

pub grounds_of-grounds-requires-clause-fixed : goal.grounds_of-grounds-requires-clause-fixed
grounds_of-grounds-requires-clause-fixed c = (known (parts_in c.args.parts.now) c.args.graph.now c.requires.listed c.requires.graph c.requires.cycles).fixed

pub compare-requires-clause-fragments : goal.compare-requires-clause-fragments
compare-requires-clause-fragments c =
    let d = document_of c.args.parts.now.document.now in
    let order = (known (parts_in c.args.parts.now) c.args.graph.now c.requires.listed c.requires.graph c.requires.cycles).order c.in_ok-fragments.fragments.items c.in_ok-fragments.ensures in
    subst (λ (q : rust.Parts). IsOrder c.deref-6.result.now (place_in (document_of q.document.now).fragments) (document_of q.document.now).fragments) (sym c.grounds_of-grounds.ensures)
    (subst (λ (o : List ℕ). IsOrder o (place_in d.fragments) d.fragments) (sym c.deref-6.ensures.value) order)

pub compare-requires-clause-ranked : goal.compare-requires-clause-ranked
compare-requires-clause-ranked c =
    subst (λ (q : rust.Parts). ∥ AreRanked (place_in (document_of q.document.now).fragments) (document_of q.document.now).fragments ∥₁) (sym c.grounds_of-grounds.ensures) ∣ (known (parts_in c.args.parts.now) c.args.graph.now c.requires.listed c.requires.graph c.requires.cycles).ranked ∣₁

pub returns : goal.returns
returns c =
    subst (λ (p : rust.Parts). IfOk c.compare.result (λ report. IsMerging (parts_in p) (option_map broken_of report))) c.grounds_of-grounds.ensures c.compare.ensures
