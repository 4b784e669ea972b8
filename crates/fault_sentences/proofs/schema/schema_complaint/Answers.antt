use Rattle.std.proofs.Common.{◌∙◌, ap, inl, inr}
use Rattle.fault_sentences.specs.declared.schema.Found as rust
use Rattle.fault_sentences.specs.Seen.{found_seen}
use Rattle.fault_sentences.proofs.schema.schema_complaint.Goals as goal
use Rattle.fault_sentences.proofs.schema.schema_complaint.Goals.{in-Some, in-None+in-Some-character_at}

pub returns : goal.returns
returns c =
    let found = found_seen c.match-token_at.found in
    elim c.match-token_at.branch [
      | in-Some w ↦ inl (record {
        found = found;
        stands = inl (record {
          tokens = c.as_slice-tokens.result.now;
          fault = c.in_ok-lexed.lexed.fault;
          lexed = rw c.as_slice-tokens.ensures.value c.in_ok-lexed.ensures.lexed;
          i = w.in-Some.i;
          t = w.in-Some.token;
          stands = w.in-Some.ensures.found;
          word_is = ap (λ (f : rust.Found). f.word.now) w.found-is ∙ w.text.ensures;
          next_is = ap (λ (f : rust.Found). f.next.now) w.found-is ∙ w.text_at.ensures;
          type_is = ap (λ (f : rust.Found). f.of_type.now) w.found-is ∙ w.last_defined.ensures;
        });
        said = c.complaint_on.ensures;
      })
      | in-None+in-Some-character_at w ↦ inl (record {
        found = found;
        stands = inr (record {
          tokens = c.as_slice-tokens.result.now;
          fault = c.in_ok-lexed.lexed.fault;
          lexed = rw c.as_slice-tokens.ensures.value c.in_ok-lexed.ensures.lexed;
          none = w.in-None.ensures.none;
          character = rw w.found-is w.in-Some-character_at.ensures.found;
          no_next = ap (λ (f : rust.Found). f.next.now) w.found-is;
          no_type = ap (λ (f : rust.Found). f.of_type.now) w.found-is;
        });
        said = c.complaint_on.ensures;
      })
    ]
