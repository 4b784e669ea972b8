use Rattle.std.proofs.Common.{◌≡◌, ◌++◌, drop}
use Rattle.json.specs.Tree.{items_tokens}
use Rattle.answer_json.specs.Answer.{errors_of, errors_json}
use Rattle.answer_json.proofs.put.put_errors.Given as goal

abbrev pub invariant-loop-error : goal.invariant-loop-error
invariant-loop-error l = record {
  before : l.writer.before ≡ l.initial.writer.before;
  tokens : l.writer.tokens ++ items_tokens (errors_json (errors_of (drop l.error-index l.errors))) ≡ l.initial.writer.tokens ++ items_tokens (errors_json (errors_of l.errors));
}
