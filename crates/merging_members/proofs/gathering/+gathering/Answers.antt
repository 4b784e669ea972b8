use Rattle.std.specs.Arc.{arc_value}
use Rattle.std.proofs.Common.{◌≡◌, ◌∙◌, sym, ap, subst, refl, ◌≤◌, ◌+◌, ◌++◌, [], List, length, drop, drop_of_length-le, false, arith}
use Rattle.std.proofs.lemmas.Bool.{both_ways}
use Rattle.std.proofs.lemmas.List.{map-append}
use Rattle.std.proofs.lemmas.Result.{on_ok_weaker}
use Rattle.gq_parser.specs.declared.tree.Selection.{Selection}
use Rattle.gq_parser.specs.Tree as tree
use Rattle.gq_parser.specs.Tree.{Below, Inline, SelectionSet, and_selection, set_of, selection_of, map_selections, condition_if, directives_of}
use Rattle.gq_parser.proofs.Views.{of_set, of_inline, selection_spread, selection_inline}
use Rattle.merging_members.specs.Knowledge.{Gains}
use Rattle.merging_members.specs.Members.{count_in, count_from, count_among, members_in, members_from}
use Rattle.merging_members.specs.SetMembers.{renumbered}
use Rattle.merging_members.specs.Written.{written_in, written_among, written_from, own_below, belows}
use Rattle.merging_members.proofs.Adding.{Adding, adding-none, adding-more, adding-all, belows-length, from-count, field-added, field-place}
use Rattle.merging_members.proofs.Entering.{Entered, field-alone, joined-members, entered-more, drop-next}
use Rattle.merging_members.proofs.gathering.+gathering.Goals as goal

pub gather-returns-in-Field-clause-reached : goal.gather-returns-in-Field-clause-reached
gather-returns-in-Field-clause-reached t c =
    let gains : Gains c.args.walk.now (λ spread. members_from spread c.args.number (selection_of c.args.selection.now)) c.args.reached.now c.add_field.new.reached =
    λ spread ms knows is. rw (field-alone spread c.args.number c.args.selection.now c.in-Field.field c.in-Field.is) (c.add_field.ensures ms is) in
    on_ok_weaker c.gather_field.result (λ _. gains) c.gather_field.ensures.rows

pub gather-returns-in-Spread-clause-reached : goal.gather-returns-in-Spread-clause-reached
gather-returns-in-Spread-clause-reached t c = λ spread ms knows is.
    let same : members_from spread c.args.number (selection_of c.args.selection.now) ≡ spread c.as_str.result.now =
    ap (λ (s : Selection). members_from spread c.args.number (selection_of s)) c.in-Spread.is
    ∙ (ap (λ (s : tree.Selection). members_from spread c.args.number s) (selection_spread c.in-Spread.spread) ∙ ap spread (sym c.as_str.ensures)) in
    rw same (c.add_fragment.ensures spread ms (knows c.as_str.result.now) is)

pub gather-returns-in_ok-inside-in-Inline-clause-reached : goal.gather-returns-in_ok-inside-in-Inline-clause-reached
gather-returns-in_ok-inside-in-Inline-clause-reached t c = λ spread ms knows is.
    let rows = c.args.walk.now.rows.now in
    let numbers = c.args.walk.now.numbers.now in
    let i = c.in-Inline.inline in
    let inside = members_in spread c.args.number (set_of i.selection_set) in
    let other = c.in_ok-inside-in-Inline.ensures.reached spread knows in
    let same : selection_of c.args.selection.now ≡ Inline i.place (condition_if i.condition) (directives_of i.directives.items) (set_of i.selection_set) =
    ap (λ (s : Selection). selection_of s) c.in-Inline.is ∙ (selection_inline i ∙ of_inline i.place i.condition i.directives i.selection_set) in
    rw same (joined-members rows numbers ms inside c.add_all.new.self (c.add_all.ensures rows (renumbered numbers ms) (renumbered numbers inside) is other))

pub gather_field-returns-in-Some-get_mut-clause-rows : goal.gather_field-returns-in-Some-get_mut-clause-rows
gather_field-returns-in-Some-get_mut-clause-rows t c = λ spread knows.
    let numbers = c.args.walk.now.numbers.now in
    let s = set_of (arc_value c.in-Some.set) in
    let added = rw c.deref.ensures at (c.in_ok-reached-in-Some.ensures.rows spread knows) in
    let reached = rw c.deref.ensures at (c.in_ok-reached-in-Some.ensures.reached spread knows) in
    rw c.in-Some.is (field-added numbers spread c.args.number (c.args.number + 1) c.len-place.result (tree.below s) (belows (written_in s)) c.args.rows.now.items c.push.new.self.items c.gather_set.new.rows.items
    c.new.result c.in_ok-reached-in-Some.field-0.reached.members refl (c.len-place.ensures ∙ c.args.rows.now.ok.0) c.in_ok-push.ensures.items added reached.members)

pub gather_field-returns-in-None-get_mut-clause-rows : goal.gather_field-returns-in-None-get_mut-clause-rows
gather_field-returns-in-None-get_mut-clause-rows t c = λ spread knows.
    let added = rw c.deref.ensures at (c.in_ok-reached-in-Some.ensures.rows spread knows) in
    let place = field-place c.args.walk.now.numbers.now spread (c.args.number + 1) c.len-place.result (belows (written_in (set_of (arc_value c.in-Some.set)))) c.args.rows.now.items c.push.new.self.items c.gather_set.new.rows.items
    c.new.result (c.len-place.ensures ∙ c.args.rows.now.ok.0) c.in_ok-push.ensures.items added in
    let all = c.gather_set.new.rows.ok.0 in
    absurd (both_ways false refl (c.in-None-get_mut.ensures.variant.1 (omega (arith, place, all))))

pub gather_set-loop-selection-init : goal.gather_set-loop-selection-init
gather_set-loop-selection-init t c = record {
  counted = refl;
  entered = λ spread knows. record { done = []; whole = sym (ap (λ (s : SelectionSet). members_in spread c.args.first s) (of_set c.args.set.now.place c.args.set.now.selections)); is = c.new-reached.ensures c.args.walk.now.rows.now };
  added = λ spread knows. adding-none c.args.walk.now.numbers.now (belows (written_among (map_selections c.args.set.now.selections.items))) spread c.args.first c.args.rows.now.items;
}

pub gather_set-loop-selection-preserved : goal.gather_set-loop-selection-preserved
gather_set-loop-selection-preserved t c =
    let rows = c.args.walk.now.rows.now in
    let numbers = c.args.walk.now.numbers.now in
    let items = c.args.set.now.selections.items in
    let i = c.loop-selection.selection-index in
    let n = c.loop-selection.next in
    let x = c.selection-item.result in
    let rest = map_selections (drop (i + 1) items) in
    let left : map_selections (drop i items) ≡ and_selection (selection_of x) rest =
    ap (λ (ss : List Selection). map_selections ss) (drop-next c.deref-selection-items.result.now items i x c.deref-selection-items.ensures.value c.loop-selection-test.true c.selection-item.is) in
    let counts : count_among (map_selections (drop i items)) ≡ count_from (selection_of x) + count_among rest = ap count_among left in
    let here : List Below = belows (written_from (selection_of x)) in
    let parts : belows (written_among (map_selections (drop i items))) ≡ here ++ belows (written_among rest) =
    ap (λ (ss : tree.Selections). belows (written_among ss)) left ∙ map-append own_below (written_from (selection_of x)) (written_among rest) in
    let many : c.in_ok-next.next ≡ n + length here = c.in_ok-next.ensures.next ∙ ap (λ k. n + k) (sym (belows-length (written_from (selection_of x)) ∙ from-count (selection_of x))) in
    record {
      counted = omega (arith, counts, c.loop-selection.invariant.counted, c.in_ok-next.ensures.next);
      entered = λ spread knows.
          let all = members_in spread c.args.first (set_of c.args.set.now) in
          let e : Entered rows numbers all spread n (and_selection (selection_of x) rest) c.loop-selection.reached =
          subst (λ (ss : tree.Selections). Entered rows numbers all spread n ss c.loop-selection.reached) left (c.loop-selection.invariant.entered spread knows) in
          entered-more rows numbers all spread n c.in_ok-next.next (selection_of x) rest c.loop-selection.reached c.gather.new.reached e
          c.in_ok-next.ensures.next (λ known. c.in_ok-next.ensures.reached spread e.done knows known);
      added = λ spread knows.
          let all = belows (written_among (map_selections items)) in
          let old = c.args.rows.now.items in
          let a : Adding numbers all spread c.args.first n (here ++ belows (written_among rest)) old c.loop-selection.rows.items =
          subst (λ (bs : List Below). Adding numbers all spread c.args.first n bs old c.loop-selection.rows.items) parts (c.loop-selection.invariant.added spread knows) in
          adding-more numbers all spread c.args.first n c.in_ok-next.next here (belows (written_among rest)) old c.loop-selection.rows.items c.gather.new.rows.items a many (c.in_ok-next.ensures.rows spread knows);
    }

pub gather_set-returns-clause-next : goal.gather_set-returns-clause-next
gather_set-returns-clause-next t c =
    let items = c.args.set.now.selections.items in
    let past : length items ≤ c.loop-selection.selection-index = rw (← c.deref-selection-items.ensures.value) c.loop-selection-test.false in
    let none : count_among (map_selections (drop c.loop-selection.selection-index items)) ≡ 0 = ap (λ (ss : List Selection). count_among (map_selections ss)) (drop_of_length-le items past) in
    let whole : count_in (set_of c.args.set.now) ≡ count_among (map_selections items) = ap count_in (of_set c.args.set.now.place c.args.set.now.selections) in
    omega (arith, none, whole, c.loop-selection.invariant.counted)

pub gather_set-returns-clause-rows : goal.gather_set-returns-clause-rows
gather_set-returns-clause-rows t c = λ spread knows.
    let numbers = c.args.walk.now.numbers.now in
    let set = c.args.set.now in
    let items = set.selections.items in
    let n = c.loop-selection.next in
    let old = c.args.rows.now.items in
    let new = c.loop-selection.rows.items in
    let all = belows (written_among (map_selections items)) in
    let past : length items ≤ c.loop-selection.selection-index = rw (← c.deref-selection-items.ensures.value) c.loop-selection-test.false in
    let none : map_selections (drop c.loop-selection.selection-index items) ≡ tree.no_selection = ap (λ (ss : List Selection). map_selections ss) (drop_of_length-le items past) in
    let whole : set_of set ≡ tree.set_at set.place (map_selections items) = of_set set.place set.selections in
    let a : Adding numbers all spread c.args.first n [] old new =
    subst (λ (ss : tree.Selections). Adding numbers all spread c.args.first n (belows (written_among ss)) old new) none (c.loop-selection.invariant.added spread knows) in
    rw whole (adding-all numbers all spread c.args.first n old new a)
