use Rattle.answer_json.proofs.Steps.{then_put, last_put}
use Rattle.answer_json.proofs.put.put_place.Goals as goal

pub returns-clause-ok : goal.returns-clause-ok
returns-clause-ok c =
    let old = c.args.writer.now.tokens in
    let line = then_put old _ _ _ _ c.in_ok-begin_object.ensures.ok c.in_ok-put_number.ensures.ok in
    let column = then_put old _ _ _ _ line c.in_ok-put_number-2.ensures.ok in
    last_put c.end_object.result old _ _ _ _ column c.end_object.ensures.ok
