use Rattle.std.proofs.Common.{◌≡◌, length, arith}
use Rattle.load_memory.proofs.CellLaws.{length-cut}
use Rattle.flat_rows.proofs.texts.FlatTexts.sheet.Goals as goal

pub sheet_of-requires-clause-enough : goal.sheet_of-requires-clause-enough
sheet_of-requires-clause-enough c =
    let texts : length c.args.self.now ≡ length c.self.inside.ends.now = rw (← c.self.view_is) (length-cut _ 0 c.self.inside.ends.now) in
    omega (arith, c.requires)
