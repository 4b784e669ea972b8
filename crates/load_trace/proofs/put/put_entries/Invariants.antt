use Rattle.std.proofs.Common.{◌≡◌, ◌++◌, map, drop}
use Rattle.load_queue.specs.Logs.{asked_of}
use Rattle.load_trace.specs.Traces.{batches_in, batches_tokens}
use Rattle.load_trace.proofs.put.put_entries.Given as goal

abbrev pub invariant-loop-entry : goal.invariant-loop-entry
invariant-loop-entry l = record {
  before : l.writer.before ≡ l.initial.writer.before;
  tokens : l.writer.tokens ++ batches_tokens (batches_in l.round l.loader (map asked_of (drop l.entry-index l.log))) ≡ l.initial.writer.tokens ++ batches_tokens (batches_in l.round l.loader (map asked_of l.log));
}
