use Rattle.std.proofs.Common.{◌-◌, ◌≡◌, ◌≤◌, ◌++◌}
use Rattle.std.specs.List.{flat_map}
use Rattle.json.specs.Tree.{json_tokens}
use Rattle.load_trace.specs.Traces.{round_json, rounds_upto}
use Rattle.load_trace.proofs.put.put_rounds.Given as goal

abbrev pub invariant-loop-round : goal.invariant-loop-round
invariant-loop-round g l = record {
  before : l.writer.before ≡ l.initial.writer.before;
  tokens : l.writer.tokens ≡ l.initial.writer.tokens ++ flat_map (λ batches. json_tokens (round_json batches)) (rounds_upto l.round l.loaders);
  within : l.round ≤ l.last;
}

abbrev pub decreases-loop-round : goal.decreases-loop-round
decreases-loop-round g l = l.last - l.round
