use Rattle.std.proofs.Common.{◌≡◌, ◌<◌, ◌≤◌, ℕ, length}
use Rattle.gq_parser.specs.Tree.{Document}
use Rattle.merging_members.specs.Placed.{HasPlace, ArePlaced, AreReady}
use Rattle.merging_members.proofs.numbering.place_all.Given as goal

abbrev pub invariant-loop-field : goal.invariant-loop-field
invariant-loop-field l = record {
  len : length l.numbering.numbers.items ≡ length l.initial.numbering.numbers.items;
  own : (a : ℕ) → l.field ≤ a → a < l.end → HasPlace l.numbering.order.items l.numbering.numbers.items a;
  kept : (a : ℕ) → HasPlace l.initial.numbering.order.items l.initial.numbering.numbers.items a → HasPlace l.numbering.order.items l.numbering.numbers.items a;
  placed : (d : Document) → ArePlaced d l.initial.numbering.order.items l.initial.numbering.numbers.items → AreReady d l.initial.numbering.order.items l.initial.numbering.numbers.items l.first l.end
      → ArePlaced d l.numbering.order.items l.numbering.numbers.items;
}
