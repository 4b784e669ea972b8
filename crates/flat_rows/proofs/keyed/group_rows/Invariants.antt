use Rattle.std.proofs.Common.{take, length}
use Rattle.flat_rows.specs.Grouped.{AreGroups, look_by, place_in}
use Rattle.flat_rows.specs.Keyed.{by_of, rows_in_sheet}
use Rattle.flat_rows.proofs.keyed.group_rows.Given as goal

abbrev pub invariant-loop-row : goal.invariant-loop-row
invariant-loop-row l =
    AreGroups (look_by (by_of l.by) (place_in l.asked.first)) (take l.row (rows_in_sheet l.sheet.value)) (length l.asked.of_keys.items) l.groups.items
