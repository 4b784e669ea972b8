use Rattle.std.proofs.Common.{◌≡◌, ◌++◌, drop}
use Rattle.load_trace.specs.Traces.{batches_tokens, round_batches}
use Rattle.load_trace.proofs.put.put_batches.Given as goal

abbrev pub invariant-loop-loader : goal.invariant-loop-loader
invariant-loop-loader g l = record {
  before : l.writer.before ≡ l.initial.writer.before;
  tokens : l.writer.tokens ++ batches_tokens (round_batches l.round (drop l.loader-index l.loaders)) ≡ l.initial.writer.tokens ++ batches_tokens (round_batches l.round l.loaders);
}
