use Rattle.std.proofs.Common.{◌≡◌, length, arith}
use Rattle.load_memory.proofs.CellLaws.{length-cut}
use Rattle.load_memory.proofs.sheet.Cells.count_fits.Goals as goal

pub returns : goal.returns
returns c =
    let cells : length c.args.self.now ≡ length c.self.inside.ends = rw (← c.self.view_is) (length-cut _ 0 c.self.inside.ends) in
    omega (arith, c.len-count.ensures)
