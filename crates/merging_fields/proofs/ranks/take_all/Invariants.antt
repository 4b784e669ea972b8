use Rattle.std.proofs.Common.{◌≡◌, ◌<◌, ℕ, true}
use Rattle.rules_parts.specs.declared.part.Owner.TheVariants as owner
use Rattle.rules_spreads.specs.Graphs.{row}
use Rattle.rules_spreads.specs.SpreadReaches.{IsMarked}
use Rattle.merging_fields.specs.Orders.{are_marked, IsPart}
use Rattle.merging_fields.proofs.ranks.take_all.Given as goal

abbrev pub invariant-loop-fragment : goal.invariant-loop-fragment
invariant-loop-fragment l = record {
  part : IsPart l.graph l.order.items l.taken.items;
  kept : (x : ℕ) → IsMarked l.initial.taken.items x → IsMarked l.taken.items x;
  taken : (x : ℕ) → x < l.fragment → are_marked l.initial.taken.items (row l.graph (owner.Fragment x)) ≡ true → IsMarked l.taken.items x;
}
