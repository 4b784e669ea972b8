use Rattle.std.proofs.Common.{◌≡◌, ◌∙◌, sym, ap, subst, refl, ◌≤◌, ◌+◌, ◌++◌, [], List, length, drop, drop_of_length-le, map, append-nil, arith}
use Rattle.std.specs.Prelude.{filter}
use Rattle.std.proofs.lemmas.Result.{on_ok_weaker}
use Rattle.gq_parser.specs.declared.tree.Selection.{Selection}
use Rattle.gq_parser.specs.Tree as tree
use Rattle.gq_parser.specs.Tree.{Inline, SelectionSet, set_at, and_selection, set_of, selection_of, map_selections, condition_if, directives_of}
use Rattle.gq_parser.proofs.Views.{of_set, of_inline, selection_spread, selection_inline}
use Rattle.merging_members.specs.Knowledge.{Gains}
use Rattle.merging_members.specs.Members.{count_in, count_from, count_among, members_in, members_from, sets_among}
use Rattle.merging_members.specs.SetMembers.{renumbered, is_clashing, clashing_of, place_of}
use Rattle.merging_members.proofs.Clashing.{with-own, found-more}
use Rattle.merging_members.proofs.Entering.{Entered, field-alone, joined-members, entered-more, entered-all, drop-next}
use Rattle.merging_members.proofs.visiting.+visiting.Goals as goal

pub visit-returns-in-Field-clause-reached : goal.visit-returns-in-Field-clause-reached
visit-returns-in-Field-clause-reached t c =
    let gains : Gains c.args.walk.now (λ spread. members_from spread c.args.number (selection_of c.args.selection.now)) c.args.reached.now c.add_field.new.reached =
    λ spread ms knows is. rw (field-alone spread c.args.number c.args.selection.now c.in-Field.field c.in-Field.is) (c.add_field.ensures ms is) in
    on_ok_weaker c.visit_below.result (λ _. gains) c.visit_below.ensures.clashing

pub visit-returns-in-Spread-clause-reached : goal.visit-returns-in-Spread-clause-reached
visit-returns-in-Spread-clause-reached t c = λ spread ms knows is.
    let same : members_from spread c.args.number (selection_of c.args.selection.now) ≡ spread c.as_str.result.now =
    ap (λ (s : Selection). members_from spread c.args.number (selection_of s)) c.in-Spread.is
    ∙ (ap (λ (s : tree.Selection). members_from spread c.args.number s) (selection_spread c.in-Spread.spread) ∙ ap spread (sym c.as_str.ensures)) in
    rw same (c.add_fragment.ensures spread ms (knows c.as_str.result.now) is)

pub visit-returns-in_ok-inside-in-Inline-clause-reached : goal.visit-returns-in_ok-inside-in-Inline-clause-reached
visit-returns-in_ok-inside-in-Inline-clause-reached t c = λ spread ms knows is.
    let rows = c.args.walk.now.rows.now in
    let numbers = c.args.walk.now.numbers.now in
    let i = c.in-Inline.inline in
    let inside = members_in spread c.args.number (set_of i.selection_set) in
    let other = c.in_ok-inside-in-Inline.ensures.reached spread knows in
    let same : selection_of c.args.selection.now ≡ Inline i.place (condition_if i.condition) (directives_of i.directives.items) (set_of i.selection_set) =
    ap (λ (s : Selection). selection_of s) c.in-Inline.is ∙ (selection_inline i ∙ of_inline i.place i.condition i.directives i.selection_set) in
    rw same (joined-members rows numbers ms inside c.add_all.new.self (c.add_all.ensures rows (renumbered numbers ms) (renumbered numbers inside) is other))

pub visit_set-loop-selection-init : goal.visit_set-loop-selection-init
visit_set-loop-selection-init t c = record {
  counted = refl;
  entered = λ spread knows. record { done = []; whole = sym (ap (λ (s : SelectionSet). members_in spread c.args.first s) (of_set c.args.set.now.place c.args.set.now.selections)); is = c.new-reached.ensures c.args.walk.now.rows.now };
  inside = λ all. all;
  found = λ spread knows. refl;
}

pub visit_set-loop-selection-preserved : goal.visit_set-loop-selection-preserved
visit_set-loop-selection-preserved t c =
    let rows = c.args.walk.now.rows.now in
    let numbers = c.args.walk.now.numbers.now in
    let items = c.args.set.now.selections.items in
    let i = c.loop-selection.selection-index in
    let n = c.loop-selection.next in
    let x = c.selection-item.result in
    let rest = map_selections (drop (i + 1) items) in
    let left : map_selections (drop i items) ≡ and_selection (selection_of x) rest =
    ap (λ (ss : List Selection). map_selections ss) (drop-next c.deref-selection-items.result.now items i x c.deref-selection-items.ensures.value c.loop-selection-test.true c.selection-item.is) in
    let counts : count_among (map_selections (drop i items)) ≡ count_from (selection_of x) + count_among rest = ap count_among left in
    record {
      counted = omega (arith, counts, c.loop-selection.invariant.counted, c.in_ok-next.ensures.next);
      entered = λ spread knows.
          let all = members_in spread c.args.first (set_of c.args.set.now) in
          let e : Entered rows numbers all spread n (and_selection (selection_of x) rest) c.loop-selection.reached =
          subst (λ (ss : tree.Selections). Entered rows numbers all spread n ss c.loop-selection.reached) left (c.loop-selection.invariant.entered spread knows) in
          entered-more rows numbers all spread n c.in_ok-next.next (selection_of x) rest c.loop-selection.reached c.visit.new.reached e
          c.in_ok-next.ensures.next (λ here. c.in_ok-next.ensures.reached spread e.done knows here);
      inside = λ all. c.in_ok-next.ensures.inside (c.loop-selection.invariant.inside all);
      found = λ spread knows.
          let test = is_clashing rows numbers in
          let old = map (clashing_of spread) c.loop-selection.clashing.items in
          let before = ap (λ (ss : tree.Selections). old ++ filter test (sets_among spread n ss)) (sym left) ∙ c.loop-selection.invariant.found spread knows in
          found-more test spread n c.in_ok-next.next (selection_of x) rest old (map (clashing_of spread) c.visit.new.clashing.items) _ c.in_ok-next.ensures.next (c.in_ok-next.ensures.clashing spread knows) before;
    }

pub visit_set-returns-clause-inside : goal.visit_set-returns-clause-inside
visit_set-returns-clause-inside t c = λ all. c.in_ok-note.ensures.inside (length c.args.walk.now.numbers.now) c.requires.inside (c.loop-selection.invariant.inside all)

pub visit_set-returns-clause-next : goal.visit_set-returns-clause-next
visit_set-returns-clause-next t c =
    let items = c.args.set.now.selections.items in
    let past : length items ≤ c.loop-selection.selection-index = rw (← c.deref-selection-items.ensures.value) c.loop-selection-test.false in
    let none : count_among (map_selections (drop c.loop-selection.selection-index items)) ≡ 0 = ap (λ (ss : List Selection). count_among (map_selections ss)) (drop_of_length-le items past) in
    let whole : count_in (set_of c.args.set.now) ≡ count_among (map_selections items) = ap count_in (of_set c.args.set.now.place c.args.set.now.selections) in
    omega (arith, none, whole, c.loop-selection.invariant.counted)

pub visit_set-returns-clause-clashing : goal.visit_set-returns-clause-clashing
visit_set-returns-clause-clashing t c = λ spread knows.
    let rows = c.args.walk.now.rows.now in
    let numbers = c.args.walk.now.numbers.now in
    let set = c.args.set.now in
    let items = set.selections.items in
    let test = is_clashing rows numbers in
    let old = map (clashing_of spread) c.args.clashing.now.items in
    let mid = map (clashing_of spread) c.loop-selection.clashing.items in
    let past : length items ≤ c.loop-selection.selection-index = rw (← c.deref-selection-items.ensures.value) c.loop-selection-test.false in
    let none : map_selections (drop c.loop-selection.selection-index items) ≡ tree.no_selection = ap (λ (ss : List Selection). map_selections ss) (drop_of_length-le items past) in
    let whole : set_of set ≡ set_at set.place (map_selections items) = of_set set.place set.selections in
    let is : set_of set ≡ set_at (place_of (set_of set)) (map_selections items) = whole ∙ ap (λ (p : SelectionSet). set_at (place_of p) (map_selections items)) (sym whole) in
    let before : mid ≡ old ++ filter test (sets_among spread c.args.first (map_selections items)) =
    sym (append-nil mid) ∙ (ap (λ (ss : tree.Selections). mid ++ filter test (sets_among spread c.loop-selection.next ss)) (sym none) ∙ c.loop-selection.invariant.found spread knows) in
    let all = members_in spread c.args.first (set_of set) in
    let entered : Entered rows numbers all spread c.loop-selection.next tree.no_selection c.loop-selection.reached =
    subst (λ (ss : tree.Selections). Entered rows numbers all spread c.loop-selection.next ss c.loop-selection.reached) none (c.loop-selection.invariant.entered spread knows) in
    with-own test spread c.args.first (set_of set) (map_selections items) old mid _ is before (c.in_ok-note.ensures.sets rows numbers spread (entered-all rows numbers all spread c.loop-selection.next c.loop-selection.reached entered))
