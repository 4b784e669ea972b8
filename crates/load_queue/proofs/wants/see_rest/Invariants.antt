use Rattle.std.proofs.Common.{◌≡◌, map}
use Rattle.load_memory.specs.Keys.{key_of}
use Rattle.load_queue.specs.Wanted.{HaveSeen}
use Rattle.load_queue.proofs.wants.see_rest.Given as goal

abbrev pub invariant-loop-number : goal.invariant-loop-number
invariant-loop-number l = record {
  saw : HaveSeen l.mode l.seen (map key_of l.keys);
  at : l.seen.count ≡ l.number;
}
