use Rattle.std.proofs.Common.{◌≡◌, [], drop, fold, length, map, replicate}
use Rattle.rules_parts.specs.Parts.{spread_part_of}
use Rattle.rules_spreads.specs.Graphs.{operation_number, fragment_number, with_spread}
use Rattle.rules_spreads.specs.Rows.{rows_in}
use Rattle.rules_spreads.proofs.graph.Graph.new.Given as goal

abbrev pub invariant-loop-spread : goal.invariant-loop-spread
invariant-loop-spread l = record {
  operations : fold (with_spread l.count operation_number) (rows_in l.operations.items) (map spread_part_of (drop l.spread-index l.parts.spreads.items)) ≡ fold (with_spread l.count operation_number) (replicate (length l.parts.document.now.operations.items) []) (map spread_part_of l.parts.spreads.items);
  fragments : fold (with_spread l.count fragment_number) (rows_in l.fragments.items) (map spread_part_of (drop l.spread-index l.parts.spreads.items)) ≡ fold (with_spread l.count fragment_number) (replicate l.count []) (map spread_part_of l.parts.spreads.items);
}
