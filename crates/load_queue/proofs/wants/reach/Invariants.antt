use Rattle.std.proofs.Common.{◌≡◌, length}
use Rattle.load_queue.specs.Wanted.{wanted_in}
use Rattle.load_queue.proofs.wants.reach.Given as goal

abbrev pub invariant-loop-number : goal.invariant-loop-number
invariant-loop-number l = record {
  same : wanted_in l.lists.items l.modes ≡ wanted_in l.fn.lists.items l.modes;
  many : l.number ≡ length l.lists.items;
}
