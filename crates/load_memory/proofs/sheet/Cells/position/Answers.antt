use Rattle.std.proofs.Common.{◌≡◌, ◌<◌, ◌+◌, ◌∙◌, suc, length, string_bytes, sym, true, false, [], get_or, arith}
use Rattle.std.proofs.lemmas.List.{length-take-le, get_or-take}
use Rattle.std.specs.Prelude.{bytes_eq, take}
use Rattle.load_memory.proofs.CellLaws.{cell-from, length-cell, length-cut, none-next, other-length, start_at-first, start_at-next}
use Rattle.load_memory.proofs.RowLaws.{position-found, position-none}
use Rattle.load_memory.proofs.sheet.Cells.position.Goals.{else-end-start-via-then-end-start+else-is_same_text, else-end-start-via-else-end-start}
use Rattle.load_memory.proofs.sheet.Cells.position.Goals as goal

pub loop-i-init : goal.loop-i-init
loop-i-init c = (sym (start_at-first 0 c.self.inside.ends), λ k below. absurd (omega (arith, below)))

pub get-end-requires : goal.get-end-requires
get-end-requires c =
    let cells : length c.args.self.now ≡ length c.self.inside.ends = rw (← c.self.view_is) (length-cut _ 0 c.self.inside.ends) in
    omega (arith, c.requires, c.loop-i-test.true)

pub overflow_sub-end : goal.overflow_sub-end
overflow_sub-end c =
    let cells : length c.args.self.now ≡ length c.self.inside.ends = rw (← c.self.view_is) (length-cut _ 0 c.self.inside.ends) in
    let lt : c.loop-i.i < length c.self.inside.ends = omega (arith, c.requires, c.loop-i-test.true) in
    let cell = cell-from (string_bytes c.self.inside.text) c.self.inside.ends c.loop-i.start c.loop-i.i c.self.invariant lt c.loop-i.invariant.0 in
    rw (c.get-end.ensures) cell.ordered

pub range-requires-clause-start_le_end : goal.range-requires-clause-start_le_end
range-requires-clause-start_le_end c =
    let cells : length c.args.self.now ≡ length c.self.inside.ends = rw (← c.self.view_is) (length-cut _ 0 c.self.inside.ends) in
    let lt : c.loop-i.i < length c.self.inside.ends = omega (arith, c.requires, c.loop-i-test.true) in
    let cell = cell-from (string_bytes c.self.inside.text) c.self.inside.ends c.loop-i.start c.loop-i.i c.self.invariant lt c.loop-i.invariant.0 in
    rw (c.get-end.ensures) cell.ordered

pub range-requires-clause-start_boundary : goal.range-requires-clause-start_boundary
range-requires-clause-start_boundary c =
    let cells : length c.args.self.now ≡ length c.self.inside.ends = rw (← c.self.view_is) (length-cut _ 0 c.self.inside.ends) in
    let lt : c.loop-i.i < length c.self.inside.ends = omega (arith, c.requires, c.loop-i-test.true) in
    let cell = cell-from (string_bytes c.self.inside.text) c.self.inside.ends c.loop-i.start c.loop-i.i c.self.invariant lt c.loop-i.invariant.0 in
    rw (c.as_str.ensures.value) cell.from_boundary

pub range-requires-clause-end_boundary : goal.range-requires-clause-end_boundary
range-requires-clause-end_boundary c =
    let cells : length c.args.self.now ≡ length c.self.inside.ends = rw (← c.self.view_is) (length-cut _ 0 c.self.inside.ends) in
    let lt : c.loop-i.i < length c.self.inside.ends = omega (arith, c.requires, c.loop-i-test.true) in
    let cell = cell-from (string_bytes c.self.inside.text) c.self.inside.ends c.loop-i.start c.loop-i.i c.self.invariant lt c.loop-i.invariant.0 in
    rw (c.as_str.ensures.value, c.get-end.ensures) cell.to_boundary

pub returns-then-is_same_text : goal.returns-then-is_same_text
returns-then-is_same_text c =
    let cells : length c.args.self.now ≡ length c.self.inside.ends = rw (← c.self.view_is) (length-cut _ 0 c.self.inside.ends) in
    let lt : c.loop-i.i < length c.self.inside.ends = omega (arith, c.requires, c.loop-i-test.true) in
    let cell = cell-from (string_bytes c.self.inside.text) c.self.inside.ends c.loop-i.start c.loop-i.i c.self.invariant lt c.loop-i.invariant.0 in
    let is : c.range.result.now ≡ get_or c.args.self.now c.loop-i.i [] = rw (c.range.ensures.value, c.as_str.ensures.value, c.get-end.ensures, ← c.self.view_is) cell.value in
    let here : bytes_eq (get_or c.args.self.now c.loop-i.i []) c.args.text.now ≡ true = rw (← is) (sym c.is_same_text.ensures ∙ c.if-is_same_text.true) in
    let size : length (take c.args.count c.args.self.now) ≡ c.args.count = length-take-le c.args.count c.args.self.now c.requires in
    position-found (λ t. bytes_eq t c.args.text.now) (take c.args.count c.args.self.now) [] c.loop-i.i (omega (arith, c.loop-i-test.true))
    (λ k below. rw (get_or-take c.args.count c.args.self.now k [] (omega (arith, below, c.loop-i-test.true))) (c.loop-i.invariant.1 k below))
    (rw (get_or-take c.args.count c.args.self.now c.loop-i.i [] c.loop-i-test.true) here)

pub loop-i-preserved : goal.loop-i-preserved
loop-i-preserved c =
    let cells : length c.args.self.now ≡ length c.self.inside.ends = rw (← c.self.view_is) (length-cut _ 0 c.self.inside.ends) in
    let lt : c.loop-i.i < length c.self.inside.ends = omega (arith, c.requires, c.loop-i-test.true) in
    let cell = cell-from (string_bytes c.self.inside.text) c.self.inside.ends c.loop-i.start c.loop-i.i c.self.invariant lt c.loop-i.invariant.0 in
    let one : suc c.loop-i.i ≡ c.loop-i.i + 1 = omega arith in
    let next = start_at-next 0 c.self.inside.ends c.loop-i.i 0 lt in
    let size = length-cell _ _ _ _ cell in
    let here : bytes_eq (get_or c.args.self.now c.loop-i.i []) c.args.text.now ≡ false = elim c.else-end-start.branch [
      | else-end-start-via-then-end-start+else-is_same_text w ↦
          let is : w.range.result.now ≡ get_or c.args.self.now c.loop-i.i [] = rw (w.range.ensures.value, w.as_str.ensures.value, c.get-end.ensures, ← c.self.view_is) cell.value in
          rw (← is) (sym w.is_same_text.ensures ∙ w.if-is_same_text.false)
      | else-end-start-via-else-end-start w ↦ rw (← c.self.view_is) (other-length _ c.args.text.now (λ e. absurd (omega (arith, size, e, c.get-end.ensures, w.if-end-start.false))))
    ] in
    (c.get-end.ensures ∙ sym (rw one at next), none-next c.args.self.now c.args.text.now c.loop-i.i c.loop-i.invariant.1 here)

pub returns : goal.returns
returns c =
    let size : length (take c.args.count c.args.self.now) ≡ c.args.count = length-take-le c.args.count c.args.self.now c.requires in
    let all : c.loop-i.i ≡ c.args.count = omega (arith, c.loop-i-test.false, c.loop-i.auto.i-end) in
    position-none (λ t. bytes_eq t c.args.text.now) (take c.args.count c.args.self.now) [] c.loop-i.i (omega arith)
    (λ k below. rw (get_or-take c.args.count c.args.self.now k [] (omega (arith, below))) (c.loop-i.invariant.1 k below))
