use Rattle.std.proofs.Common.{◌≡◌, length}
use Rattle.rules_parts.specs.Parts.{parts_in}
use Rattle.rules_spreads.specs.Tables.{IsSettled}
use Rattle.rules_spreads.proofs.levels.ordered_table.Given as goal

abbrev pub invariant-loop-i : goal.invariant-loop-i
invariant-loop-i l = record {
  settled : IsSettled l.table.items l.i (parts_in l.parts).document.fragments;
  len : length l.table.items ≡ l.count;
}
