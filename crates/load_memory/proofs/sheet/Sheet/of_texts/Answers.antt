use Rattle.std.proofs.Common.{◌≡◌, ◌+◌, ◌*◌, ◌∙◌, ap, drop, length, arith}
use Rattle.std.proofs.lemmas.List.{length-drop}
use Rattle.load_memory.proofs.CellLaws.{length-cut, pieces-there}
use Rattle.load_memory.proofs.sheet.Sheet.of_texts.Goals as goal

pub invariant_of-result : goal.invariant_of-result
invariant_of-result c =
    let width = c.args.width in
    let rows = c.args.rows in
    let cells = c.in_ok-cells.cells in
    let all : length cells ≡ width + rows * width = ap length c.in_ok-cells.ensures ∙ length-cut c.args.text.now 0 c.args.ends.now ∙ c.requires.whole in
    record {
      header = omega (arith, all);
      whole = pieces-there width rows (drop width cells) (omega (arith, all, length-drop width cells));
      count = c.ranges.rows.fits;
    }
