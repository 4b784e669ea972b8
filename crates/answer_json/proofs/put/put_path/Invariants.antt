use Rattle.std.proofs.Common.{◌≡◌, ◌++◌, drop, map}
use Rattle.json.specs.Tree.{items_tokens}
use Rattle.answer_json.specs.Answer.{part_of, path_json}
use Rattle.answer_json.proofs.put.put_path.Given as goal

abbrev pub invariant-loop-part : goal.invariant-loop-part
invariant-loop-part l = record {
  before : l.writer.before ≡ l.initial.writer.before;
  tokens : l.writer.tokens ++ items_tokens (path_json (map part_of (drop l.part-index l.part-items))) ≡ l.initial.writer.tokens ++ items_tokens (path_json (map part_of l.part-items));
}
