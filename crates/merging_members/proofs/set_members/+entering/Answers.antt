use Rattle.std.proofs.Common.{◌≡◌, ◌∙◌, sym, ap, subst, refl, true, ◌+◌, ◌≤◌, ◌++◌, List, drop, drop_of_length-le, length, arith}
use Rattle.gq_parser.specs.declared.tree.Selection.{Selection}
use Rattle.gq_parser.specs.Tree as tree
use Rattle.gq_parser.specs.Tree.{Inline, and_selection, set_of, selection_of, map_selections, condition_if, directives_of}
use Rattle.gq_parser.proofs.Views.{of_set, of_inline, selection_spread, selection_inline}
use Rattle.merging_members.specs.Members.{count_in, count_from, count_among, members_in, members_from}
use Rattle.merging_members.specs.Ranked.{spreads_in, spreads_among, spreads_from}
use Rattle.merging_members.proofs.Entering.{Entered, entered-more, entered-all, drop-next}
use Rattle.merging_members.proofs.Spreading.{spreads-next}
use Rattle.merging_members.proofs.set_members.+entering.Goals as goal

pub enter-returns-in-Spread-clause-reached : goal.enter-returns-in-Spread-clause-reached
enter-returns-in-Spread-clause-reached t c = λ spread test ms knows passes is.
    let name = c.as_str.result.now in
    let same : members_from spread c.args.number (selection_of c.args.selection.now) ≡ spread name =
    ap (λ (s : Selection). members_from spread c.args.number (selection_of s)) c.in-Spread.is
    ∙ (ap (λ (s : tree.Selection). members_from spread c.args.number s) (selection_spread c.in-Spread.spread) ∙ ap spread (sym c.as_str.ensures)) in
    let pass : spreads_from test (selection_of c.args.selection.now) ≡ test name =
    ap (λ (s : Selection). spreads_from test (selection_of s)) c.in-Spread.is
    ∙ (ap (λ (s : tree.Selection). spreads_from test s) (selection_spread c.in-Spread.spread) ∙ ap test (sym c.as_str.ensures)) in
    rw same (c.add_fragment.ensures spread ms (knows name (sym pass ∙ passes)) is)

pub enter-returns-in-Inline-clause-reached : goal.enter-returns-in-Inline-clause-reached
enter-returns-in-Inline-clause-reached t c = λ spread test ms knows passes is.
    let i = c.in-Inline.inline in
    let same : selection_of c.args.selection.now ≡ Inline i.place (condition_if i.condition) (directives_of i.directives.items) (set_of i.selection_set) =
    ap (λ (s : Selection). selection_of s) c.in-Inline.is ∙ (selection_inline i ∙ of_inline i.place i.condition i.directives i.selection_set) in
    rw same (c.enter_set.ensures.reached spread test ms knows (sym (ap (λ (s : tree.Selection). spreads_from test s) same) ∙ passes) is)

pub enter_set-loop-selection-init : goal.enter_set-loop-selection-init
enter_set-loop-selection-init t c = record {
  counted = refl;
  entered = λ spread test ms knows passes is. record { done = ms; whole = sym (ap (λ (s : tree.SelectionSet). ms ++ members_in spread c.args.first s) (of_set c.args.set.now.place c.args.set.now.selections)); is = is };
}

pub enter_set-loop-selection-preserved : goal.enter_set-loop-selection-preserved
enter_set-loop-selection-preserved t c =
    let rows = c.args.walk.now.rows.now in
    let numbers = c.args.walk.now.numbers.now in
    let items = c.args.set.now.selections.items in
    let i = c.loop-selection.selection-index in
    let x = c.selection-item.result in
    let rest = map_selections (drop (i + 1) items) in
    let left : map_selections (drop i items) ≡ and_selection (selection_of x) rest =
    ap (λ (ss : List Selection). map_selections ss) (drop-next c.deref-selection-items.result.now items i x c.deref-selection-items.ensures.value c.loop-selection-test.true c.selection-item.is) in
    let counts : count_among (map_selections (drop i items)) ≡ count_from (selection_of x) + count_among rest = ap count_among left in
    record {
      counted = omega (arith, counts, c.loop-selection.invariant.counted, c.enter-next.ensures.next);
      entered = λ spread test ms knows passes is.
          let all = ms ++ members_in spread c.args.first (set_of c.args.set.now) in
          let e : Entered rows numbers all spread c.loop-selection.next (and_selection (selection_of x) rest) c.loop-selection.reached =
          subst (λ (ss : tree.Selections). Entered rows numbers all spread c.loop-selection.next ss c.loop-selection.reached) left (c.loop-selection.invariant.entered spread test ms knows passes is) in
          let each : spreads_among test (map_selections items) ≡ true = sym (ap (λ (s : tree.SelectionSet). spreads_in test s) (of_set c.args.set.now.place c.args.set.now.selections)) ∙ passes in
          let pass = spreads-next test c.deref-selection-items.result.now items i x c.deref-selection-items.ensures.value c.loop-selection-test.true c.selection-item.is each in
          entered-more rows numbers all spread c.loop-selection.next c.enter-next.result (selection_of x) rest c.loop-selection.reached c.enter-next.new.reached e
          c.enter-next.ensures.next (λ here. c.enter-next.ensures.reached spread test e.done knows pass here);
    }

pub enter_set-returns-clause-reached : goal.enter_set-returns-clause-reached
enter_set-returns-clause-reached t c = λ spread test ms knows passes is.
    let rows = c.args.walk.now.rows.now in
    let numbers = c.args.walk.now.numbers.now in
    let items = c.args.set.now.selections.items in
    let n = c.loop-selection.next in
    let r = c.loop-selection.reached in
    let all = ms ++ members_in spread c.args.first (set_of c.args.set.now) in
    let past : length items ≤ c.loop-selection.selection-index = rw (← c.deref-selection-items.ensures.value) c.loop-selection-test.false in
    let none : map_selections (drop c.loop-selection.selection-index items) ≡ tree.no_selection = ap (λ (ss : List Selection). map_selections ss) (drop_of_length-le items past) in
    entered-all rows numbers all spread n r (subst (λ (ss : tree.Selections). Entered rows numbers all spread n ss r) none (c.loop-selection.invariant.entered spread test ms knows passes is))

pub enter_set-returns-clause-next : goal.enter_set-returns-clause-next
enter_set-returns-clause-next t c =
    let items = c.args.set.now.selections.items in
    let past : length items ≤ c.loop-selection.selection-index = rw (← c.deref-selection-items.ensures.value) c.loop-selection-test.false in
    let none : count_among (map_selections (drop c.loop-selection.selection-index items)) ≡ 0 = ap (λ (ss : List Selection). count_among (map_selections ss)) (drop_of_length-le items past) in
    let whole : count_in (set_of c.args.set.now) ≡ count_among (map_selections items) = ap count_in (of_set c.args.set.now.place c.args.set.now.selections) in
    omega (arith, none, whole, c.loop-selection.invariant.counted)
