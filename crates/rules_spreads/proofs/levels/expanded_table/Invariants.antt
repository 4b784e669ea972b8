use Rattle.std.proofs.Common.{length}
use Rattle.rules_parts.specs.Parts.{parts_in}
use Rattle.rules_spreads.specs.Levels.{levels_expanded}
use Rattle.rules_spreads.specs.Tables.{Agrees, IsFull}
use Rattle.rules_spreads.proofs.levels.expanded_table.Given as goal

abbrev pub invariant-loop : goal.invariant-loop
invariant-loop l = record {
  agrees : Agrees l.table.items (levels_expanded l.counter (parts_in l.parts).document.fragments);
  full : IsFull l.table.items (length (parts_in l.parts).document.fragments);
}
