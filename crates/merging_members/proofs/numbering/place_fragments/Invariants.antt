use Rattle.std.proofs.Common.{◌≡◌, length, take}
use Rattle.gq_parser.specs.Tree.{document_of}
use Rattle.merging_members.specs.Placed.{AreDone}
use Rattle.merging_members.proofs.numbering.place_fragments.Given as goal

abbrev pub invariant-loop-fragment : goal.invariant-loop-fragment
invariant-loop-fragment l = record {
  len : length l.numbering.numbers.items ≡ length l.initial.numbering.numbers.items;
  done : AreDone (document_of l.document) (take l.fragment-index l.fragments) l.numbering.order.items l.numbering.numbers.items;
}
