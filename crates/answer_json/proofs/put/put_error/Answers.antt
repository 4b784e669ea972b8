use Rattle.std.proofs.Common.{[], ◌∷◌, ◌++◌, ap, ◌∙◌, codes}
use Rattle.json.specs.Token.{key, string}
use Rattle.answer_json.proofs.Steps.{then_put, last_put}
use Rattle.answer_json.proofs.put.put_error.Goals as goal

pub returns-clause-ok : goal.returns-clause-ok
returns-clause-ok c =
    let old = c.args.writer.now.tokens in
    let text = c.in_ok-put_text.ensures.ok ∙ ap (λ s. c.begin_object.new.self.tokens ++ key (codes "message") ∷ string s ∷ []) c.as_str.ensures.value in
    let message = then_put old _ _ _ _ c.in_ok-begin_object.ensures.ok text in
    let places = then_put old _ _ _ _ message c.in_ok-put_places.ensures.ok in
    let path = then_put old _ _ _ _ (then_put old _ _ _ _ places c.in_ok-key.ensures.ok) c.in_ok-begin_array.ensures.ok in
    last_put c.end_object.result old _ _ _ _ (then_put old _ _ _ _ path c.in_ok-put_path.ensures.ok) c.end_object.ensures.ok
