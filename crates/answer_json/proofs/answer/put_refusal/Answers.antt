use Rattle.answer_json.proofs.Steps.{then_put, last_put}
use Rattle.answer_json.proofs.answer.put_refusal.Goals as goal

pub returns-clause-ok : goal.returns-clause-ok
returns-clause-ok c =
    let old = c.args.writer.now.tokens in
    let errors = then_put old _ _ _ _ (then_put old _ _ _ _ c.in_ok-begin_object.ensures.ok c.in_ok-key.ensures.ok) c.in_ok-begin_array.ensures.ok in
    let error = then_put old _ _ _ _ errors c.in_ok-put_request_error.ensures.ok in
    last_put c.end_object.result old _ _ _ _ (then_put old _ _ _ _ error c.in_ok-end_array.ensures.ok) c.end_object.ensures.ok
