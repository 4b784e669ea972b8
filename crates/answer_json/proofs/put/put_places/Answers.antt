use Rattle.answer_json.proofs.Steps.{then_put, last_put}
use Rattle.answer_json.proofs.put.put_places.Goals as goal

pub returns-clause-ok : goal.returns-clause-ok
returns-clause-ok c =
    let old = c.args.writer.now.tokens in
    let begun = then_put old _ _ _ _ c.in_ok-key.ensures.ok c.in_ok-begin_array.ensures.ok in
    let place = then_put old _ _ _ _ begun c.in_ok-put_place.ensures.ok in
    last_put c.end_array.result old _ _ _ _ place c.end_array.ensures.ok
