use Rattle.std.proofs.Common.{◌≡◌, map, take}
use Rattle.load_queue.specs.Logs.{asked_of}
use Rattle.host_clients.specs.Logs.{keys_in, round_in, stored_in}
use Rattle.host_clients.proofs.log.BatchLog.of.Given as goal

abbrev pub invariant-loop-entry : goal.invariant-loop-entry
invariant-loop-entry l = record {
  rounds : l.rounds.items ≡ map round_in (map asked_of (take l.entry-index l.entries));
  stored : l.stored.items ≡ map stored_in (map asked_of (take l.entry-index l.entries));
  keys : l.keys ≡ map keys_in (map asked_of (take l.entry-index l.entries));
}
