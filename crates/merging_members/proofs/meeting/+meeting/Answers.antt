use Rattle.std.proofs.Common.{◌∷◌, ◌≡◌, ◌∙◌, sym, ap, subst, ◌≤◌, ◌+◌, ◌++◌, [], ℕ, List, true, length, drop, drop_of_length-le, Option, Some, None, arith}
use Rattle.std.specs.Prelude.{find}
use Rattle.gq_parser.specs.declared.tree.Selection.{Selection}
use Rattle.gq_parser.specs.Tree as tree
use Rattle.gq_parser.specs.Tree.{and_selection, set_of, selection_of, map_selections}
use Rattle.gq_parser.proofs.Views.{of_set, of_inline, selection_spread, selection_inline}
use Rattle.merging_members.specs.declared.meeting.Met.{Met}
use Rattle.merging_members.specs.declared.meeting.Came.{Came}
use Rattle.merging_members.specs.Fragments.{target_at}
use Rattle.merging_members.specs.Members.{count_in, count_from, count_among, members_in, members_from, members_among}
use Rattle.merging_members.specs.SetMembers.{is_key}
use Rattle.merging_members.specs.Meeting.{IsMet, IsPast, IsSpread, met_of}
use Rattle.merging_members.specs.Ranked.{spreads_in, spreads_among, spreads_from}
use Rattle.merging_members.proofs.Entering.{drop-next, field-alone}
use Rattle.merging_members.proofs.Spreading.{spreads-next}
use Rattle.merging_members.proofs.FirstLaws.{find-past, met-here}
use Rattle.merging_members.proofs.meeting.+meeting.Goals as goal

pub come_past-returns-in-Some-clause-met : goal.come_past-returns-in-Some-clause-met
come_past-returns-in-Some-clause-met t c = λ spread knows.
    let test = is_key c.args.keys.now c.args.walk.now.numbers.now in
    let place = target_at c.args.walk.now.targets.now in
    let here : IsMet place spread test (find test (c.args.number ∷ [])) (Some c.in-Some.met) =
    subst (λ (o : Option Met). IsMet place spread test (find test (c.args.number ∷ [])) o) c.in-Some.is (c.field_met.ensures.met spread) in
    subst (λ (ms : List ℕ). IsMet place spread test (find test ms) (Some c.in-Some.met)) (sym (field-alone spread c.args.number c.args.selection.now c.in-Field.field-0 c.in-Field.is)) here

pub come_past-returns-in-None-clause-met : goal.come_past-returns-in-None-clause-met
come_past-returns-in-None-clause-met t c = λ spread knows.
    let test = is_key c.args.keys.now c.args.walk.now.numbers.now in
    let place = target_at c.args.walk.now.targets.now in
    let none : find test (c.args.number ∷ []) ≡ None = subst (λ (o : Option Met). IsMet place spread test (find test (c.args.number ∷ [])) o) c.in-None.is (c.field_met.ensures.met spread) in
    ap (λ (ms : List ℕ). find test ms) (field-alone spread c.args.number c.args.selection.now c.in-Field.field-0 c.in-Field.is) ∙ none

pub come_past-returns-in-Some-clause-spread : goal.come_past-returns-in-Some-clause-spread
come_past-returns-in-Some-clause-spread t c = λ test passes.
    let place = target_at c.args.walk.now.targets.now in
    subst (λ (o : Option Met). IsSpread place test o) c.in-Some.is (c.field_met.ensures.spread test)

pub come_past-returns-in-Some-fragment_met-clause-spread : goal.come_past-returns-in-Some-fragment_met-clause-spread
come_past-returns-in-Some-fragment_met-clause-spread t c = λ test passes.
    let place = target_at c.args.walk.now.targets.now in
    let name = c.as_str.result.now in
    let pass : spreads_from test (selection_of c.args.selection.now) ≡ test name =
    ap (λ (s : Selection). spreads_from test (selection_of s)) c.in-Spread.is
    ∙ (ap (λ (s : tree.Selection). spreads_from test s) (selection_spread c.in-Spread.spread) ∙ ap test (sym c.as_str.ensures)) in
    subst (λ (o : Option Met). IsSpread place test o) c.in-Some-fragment_met.is (c.fragment_met.ensures.spread test (sym pass ∙ passes))

pub come_past-returns-in-Inline-clause-met : goal.come_past-returns-in-Inline-clause-met
come_past-returns-in-Inline-clause-met t c = λ spread knows.
    let i = c.in-Inline.inline in
    let same : members_from spread c.args.number (selection_of c.args.selection.now) ≡ members_in spread c.args.number (set_of i.selection_set) =
    ap (λ (s : Selection). members_from spread c.args.number (selection_of s)) c.in-Inline.is
    ∙ ap (λ (s : tree.Selection). members_from spread c.args.number s) (selection_inline i ∙ of_inline i.place i.condition i.directives i.selection_set) in
    rw same (c.come_through.ensures.met spread knows)

pub come_through-returns-in-Met-clause-spread : goal.come_through-returns-in-Met-clause-spread
come_through-returns-in-Met-clause-spread t c = λ test passes.
    let place = target_at c.args.walk.now.targets.now in
    let items = c.args.set.now.selections.items in
    let i = c.loop-selection.selection-index in
    let x = c.selection-item.result in
    let each : spreads_among test (map_selections items) ≡ true = sym (ap (λ (s : tree.SelectionSet). spreads_in test s) (of_set c.args.set.now.place c.args.set.now.selections)) ∙ passes in
    let pass = spreads-next test c.deref-selection-items.result.now items i x c.deref-selection-items.ensures.value c.loop-selection-test.true c.selection-item.is each in
    subst (λ (o : Came). IsSpread place test (met_of o)) c.in-Met.is (c.come_past.ensures.spread test pass)

pub come_through-returns-in-Met-clause-met : goal.come_through-returns-in-Met-clause-met
come_through-returns-in-Met-clause-met t c = λ spread knows.
    let test = is_key c.args.keys.now c.args.walk.now.numbers.now in
    let place = target_at c.args.walk.now.targets.now in
    let items = c.args.set.now.selections.items in
    let i = c.loop-selection.selection-index in
    let n = c.loop-selection.next in
    let x = c.selection-item.result in
    let rest = map_selections (drop (i + 1) items) in
    let left : map_selections (drop i items) ≡ and_selection (selection_of x) rest =
    ap (λ (ss : List Selection). map_selections ss) (drop-next c.deref-selection-items.result.now items i x c.deref-selection-items.ensures.value c.loop-selection-test.true c.selection-item.is) in
    let xs = members_from spread n (selection_of x) in
    let ys = members_among spread (n + count_from (selection_of x)) rest in
    let whole : find test (xs ++ ys) ≡ find test (members_in spread c.args.first (set_of c.args.set.now)) =
    ap (λ (ss : tree.Selections). find test (members_among spread n ss)) (sym left)
    ∙ (c.loop-selection.invariant.unmet spread knows ∙ ap (λ (s : tree.SelectionSet). find test (members_in spread c.args.first s)) (sym (of_set c.args.set.now.place c.args.set.now.selections))) in
    let here : IsMet place spread test (find test xs) (Some c.in-Met.met) = subst (λ (o : Came). IsMet place spread test (find test xs) (met_of o)) c.in-Met.is (c.come_past.ensures.met spread knows) in
    subst (λ (o : Option ℕ). IsMet place spread test o (Some c.in-Met.met)) whole (met-here place spread test xs ys c.in-Met.met here)

pub come_through-loop-selection-preserved : goal.come_through-loop-selection-preserved
come_through-loop-selection-preserved t c =
    let test = is_key c.args.keys.now c.args.walk.now.numbers.now in
    let place = target_at c.args.walk.now.targets.now in
    let items = c.args.set.now.selections.items in
    let i = c.loop-selection.selection-index in
    let n = c.loop-selection.next in
    let x = c.selection-item.result in
    let rest = map_selections (drop (i + 1) items) in
    let left : map_selections (drop i items) ≡ and_selection (selection_of x) rest =
    ap (λ (ss : List Selection). map_selections ss) (drop-next c.deref-selection-items.result.now items i x c.deref-selection-items.ensures.value c.loop-selection-test.true c.selection-item.is) in
    let counts : count_among (map_selections (drop i items)) ≡ count_from (selection_of x) + count_among rest = ap count_among left in
    let next : c.in-Past.number ≡ n + count_from (selection_of x) = subst (IsPast (n + count_from (selection_of x))) c.in-Past.is c.come_past.ensures.past in
    record {
      counted = omega (arith, counts, c.loop-selection.invariant.counted, next);
      unmet = λ spread knows.
          let xs = members_from spread n (selection_of x) in
          let ys = members_among spread (n + count_from (selection_of x)) rest in
          let none : find test xs ≡ None = subst (λ (o : Came). IsMet place spread test (find test xs) (met_of o)) c.in-Past.is (c.come_past.ensures.met spread knows) in
          ap (λ (k : ℕ). find test (members_among spread k rest)) next
          ∙ (sym (find-past test xs ys none) ∙ (ap (λ (ss : tree.Selections). find test (members_among spread n ss)) (sym left) ∙ c.loop-selection.invariant.unmet spread knows));
    }

pub come_through-returns-clause-past : goal.come_through-returns-clause-past
come_through-returns-clause-past t c =
    let items = c.args.set.now.selections.items in
    let past : length items ≤ c.loop-selection.selection-index = rw (← c.deref-selection-items.ensures.value) c.loop-selection-test.false in
    let none : count_among (map_selections (drop c.loop-selection.selection-index items)) ≡ 0 = ap (λ (ss : List Selection). count_among (map_selections ss)) (drop_of_length-le items past) in
    let whole : count_in (set_of c.args.set.now) ≡ count_among (map_selections items) = ap count_in (of_set c.args.set.now.place c.args.set.now.selections) in
    omega (arith, none, whole, c.loop-selection.invariant.counted)

pub come_through-returns-clause-met : goal.come_through-returns-clause-met
come_through-returns-clause-met t c = λ spread knows.
    let test = is_key c.args.keys.now c.args.walk.now.numbers.now in
    let items = c.args.set.now.selections.items in
    let past : length items ≤ c.loop-selection.selection-index = rw (← c.deref-selection-items.ensures.value) c.loop-selection-test.false in
    let none : drop c.loop-selection.selection-index items ≡ [] = drop_of_length-le items past in
    ap (λ (s : tree.SelectionSet). find test (members_in spread c.args.first s)) (of_set c.args.set.now.place c.args.set.now.selections)
    ∙ (sym (c.loop-selection.invariant.unmet spread knows) ∙ ap (λ (ss : List Selection). find test (members_among spread c.loop-selection.next (map_selections ss))) none)
