use Rattle.std.proofs.Common.{◌<◌, ℕ, length}
use Rattle.rules_spreads.specs.SpreadReaches.{IsMarked}
use Rattle.merging_fields.specs.Orders.{IsPart}
use Rattle.merging_fields.proofs.Acyclic.{reached}
use Rattle.merging_fields.proofs.ranks.rank_fragments.Given as goal

abbrev pub invariant-loop : goal.invariant-loop
invariant-loop l = record {
  part : IsPart l.graph l.order.items l.taken.items;
  levels : (x : ℕ) → x < length l.graph.fragments → reached l.graph x < l.counter → IsMarked l.taken.items x;
}
