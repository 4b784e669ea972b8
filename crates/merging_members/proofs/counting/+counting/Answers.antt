use Rattle.std.proofs.Common.{◌≡◌, ap, ◌≤◌, ◌+◌, ℕ, List, length, drop, drop_of_length-le, arith}
use Rattle.gq_parser.specs.declared.tree.Selection.{Selection}
use Rattle.gq_parser.specs.Tree.{and_selection, set_of, selection_of, map_selections}
use Rattle.gq_parser.proofs.Views.{of_set}
use Rattle.merging_members.specs.Members.{capped, count_in, count_from, count_among}
use Rattle.merging_members.proofs.Entering.{drop-next}
use Rattle.merging_members.proofs.counting.+counting.Goals as goal

-- a sum of capped counts is capped like that of the counts
capped-sum : (n c x m y rest left all : ℕ) → m ≡ capped (n + x) → x ≡ capped y → left ≡ y + rest → capped (n + left) ≡ all → capped (m + rest) ≡ all
capped-sum n c x m y rest left all sum from is before = omega (arith, sum, from, is, before)

pub fields_in-loop-selection-preserved : goal.fields_in-loop-selection-preserved
fields_in-loop-selection-preserved t c =
    let items = c.args.set.now.selections.items in
    let i = c.loop-selection.selection-index in
    let x = c.selection-item.result in
    let rest = map_selections (drop (i + 1) items) in
    let left : map_selections (drop i items) ≡ and_selection (selection_of x) rest =
    ap (λ (ss : List Selection). map_selections ss) (drop-next c.deref-selection-items.result.now items i x c.deref-selection-items.ensures.value c.loop-selection-test.true c.selection-item.is) in
    let counts : count_among (map_selections (drop i items)) ≡ count_from (selection_of x) + count_among rest = ap count_among left in
    let sum = c.sum-count.ensures in
    record {
      counted = capped-sum c.loop-selection.count 0 c.fields_from.result c.sum-count.result (count_from (selection_of x)) (count_among rest) (count_among (map_selections (drop i items))) (capped (count_among (map_selections items)))
          c.sum-count.ensures c.fields_from.ensures counts c.loop-selection.invariant.counted;
      fits = omega (arith, sum);
    }

pub fields_in-returns : goal.fields_in-returns
fields_in-returns t c =
    let items = c.args.set.now.selections.items in
    let past : length items ≤ c.loop-selection.selection-index = rw (← c.deref-selection-items.ensures.value) c.loop-selection-test.false in
    let none : count_among (map_selections (drop c.loop-selection.selection-index items)) ≡ 0 = ap (λ (ss : List Selection). count_among (map_selections ss)) (drop_of_length-le items past) in
    let whole : count_in (set_of c.args.set.now) ≡ count_among (map_selections items) = ap count_in (of_set c.args.set.now.place c.args.set.now.selections) in
    omega (arith, none, whole, c.loop-selection.invariant.counted, c.loop-selection.invariant.fits)
