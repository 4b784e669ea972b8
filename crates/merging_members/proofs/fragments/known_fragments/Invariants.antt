use Rattle.std.proofs.Common.{◌≡◌, length, take}
use Rattle.gq_parser.specs.Tree.{document_of}
use Rattle.merging_members.proofs.Learning.{Learned}
use Rattle.merging_members.proofs.fragments.known_fragments.Given as goal

abbrev pub invariant-loop : goal.invariant-loop
invariant-loop l = length l.table.items ≡ l.counter

abbrev pub invariant-loop-number : goal.invariant-loop-number
invariant-loop-number l = record {
  len : length l.table.items ≡ length (document_of l.source.document.now).fragments;
  learned : Learned l.source.rows.now l.source.numbers.now (document_of l.source.document.now) (take l.number-index l.order) l.table.items;
}
