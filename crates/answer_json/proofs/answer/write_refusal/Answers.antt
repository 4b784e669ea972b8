use Rattle.std.proofs.Common.{◌++◌, ap, ◌∙◌, string_bytes}
use Rattle.json.specs.Tree.{json_tokens}
use Rattle.answer_json.specs.Answer.{refusal_json}
use Rattle.answer_json.proofs.Steps.{reads}
use Rattle.answer_json.proofs.answer.write_refusal.Goals as goal

pub returns-clause-reads_back : goal.returns-clause-reads_back
returns-clause-reads_back c =
    reads (refusal_json c.args.message.now c.args.place) (string_bytes c.writer_text.result) (c.writer_text.ensures.tokens ∙ c.in_ok-put_refusal.ensures.ok ∙ ap (λ ts. ts ++ json_tokens (refusal_json c.args.message.now c.args.place)) c.new-writer.ensures.tokens)
