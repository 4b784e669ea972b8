use Rattle.std.proofs.Common.{◌≡◌, ◌++◌, map, drop}
use Rattle.json.specs.Tree.{items_tokens}
use Rattle.json.specs.Value.{items_of}
use Rattle.load_memory.specs.Keys.{key_of}
use Rattle.load_trace.specs.Traces.{key_json}
use Rattle.load_trace.proofs.put.put_keys.Given as goal

abbrev pub invariant-loop-key : goal.invariant-loop-key
invariant-loop-key l = record {
  before : l.writer.before ≡ l.initial.writer.before;
  tokens : l.writer.tokens ++ items_tokens (items_of (map key_json (map key_of (drop l.key-index l.keys)))) ≡ l.initial.writer.tokens ++ items_tokens (items_of (map key_json (map key_of l.keys)));
}
