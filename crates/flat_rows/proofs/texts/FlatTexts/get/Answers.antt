use Rattle.std.proofs.Common.{◌≡◌, ◌<◌, length, arith}
use Rattle.load_memory.proofs.CellLaws.{cell-at, length-cut}
use Rattle.flat_rows.proofs.texts.FlatTexts.get.Goals as goal

pub start_of-start-requires : goal.start_of-start-requires
start_of-start-requires c =
    let texts : length c.args.self.now ≡ length c.self.inside.ends.now = rw (← c.self.view_is) (length-cut _ 0 c.self.inside.ends.now) in
    omega (arith, c.requires)

pub end_of-end-requires : goal.end_of-end-requires
end_of-end-requires c =
    let texts : length c.args.self.now ≡ length c.self.inside.ends.now = rw (← c.self.view_is) (length-cut _ 0 c.self.inside.ends.now) in
    omega (arith, c.requires)

pub range-requires : goal.range-requires
range-requires c =
    let texts : length c.args.self.now ≡ length c.self.inside.ends.now = rw (← c.self.view_is) (length-cut _ 0 c.self.inside.ends.now) in
    let lt : c.args.i < length c.self.inside.ends.now = omega (arith, c.requires) in
    let text = cell-at c.self.inside.text.now 0 c.self.inside.ends.now c.args.i c.self.invariant (λ none. absurd (omega (arith, none))) lt in
    rw (c.start_of-start.ensures, c.end_of-end.ensures) (record { start_le_end = text.ordered; start_boundary = text.from_boundary; end_boundary = text.to_boundary })

pub returns : goal.returns
returns c =
    let texts : length c.args.self.now ≡ length c.self.inside.ends.now = rw (← c.self.view_is) (length-cut _ 0 c.self.inside.ends.now) in
    let lt : c.args.i < length c.self.inside.ends.now = omega (arith, c.requires) in
    let text = cell-at c.self.inside.text.now 0 c.self.inside.ends.now c.args.i c.self.invariant (λ none. absurd (omega (arith, none))) lt in
    rw (c.range.ensures.value, c.start_of-start.ensures, c.end_of-end.ensures, ← c.self.view_is) text.value
