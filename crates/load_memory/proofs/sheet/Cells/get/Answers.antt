use Rattle.std.proofs.Common.{◌≡◌, ◌<◌, length, string_bytes, arith}
use Rattle.load_memory.proofs.CellLaws.{cell-at, length-cut}
use Rattle.load_memory.proofs.sheet.Cells.get.Goals as goal

pub start_of-start-requires : goal.start_of-start-requires
start_of-start-requires c =
    let cells : length c.args.self.now ≡ length c.self.inside.ends = rw (← c.self.view_is) (length-cut _ 0 c.self.inside.ends) in
    omega (arith, c.requires)

pub get-end-requires : goal.get-end-requires
get-end-requires c =
    let cells : length c.args.self.now ≡ length c.self.inside.ends = rw (← c.self.view_is) (length-cut _ 0 c.self.inside.ends) in
    omega (arith, c.requires)

pub range-requires : goal.range-requires
range-requires c =
    let cells : length c.args.self.now ≡ length c.self.inside.ends = rw (← c.self.view_is) (length-cut _ 0 c.self.inside.ends) in
    let lt : c.args.i < length c.self.inside.ends = omega (arith, c.requires) in
    let cell = cell-at (string_bytes c.self.inside.text) 0 c.self.inside.ends c.args.i c.self.invariant (λ none. absurd (omega (arith, none))) lt in
    rw (c.start_of-start.ensures, c.get-end.ensures, c.as_str.ensures.value) (record { start_le_end = cell.ordered; start_boundary = cell.from_boundary; end_boundary = cell.to_boundary })

pub returns : goal.returns
returns c =
    let cells : length c.args.self.now ≡ length c.self.inside.ends = rw (← c.self.view_is) (length-cut _ 0 c.self.inside.ends) in
    let lt : c.args.i < length c.self.inside.ends = omega (arith, c.requires) in
    let cell = cell-at (string_bytes c.self.inside.text) 0 c.self.inside.ends c.args.i c.self.invariant (λ none. absurd (omega (arith, none))) lt in
    rw (c.range.ensures.value, c.as_str.ensures.value, c.start_of-start.ensures, c.get-end.ensures, ← c.self.view_is) cell.value
