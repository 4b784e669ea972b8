use Rattle.std.proofs.Common.{◌∷◌, [], ◌++◌, List, ap, ◌∙◌}
use Rattle.std.proofs.lemmas.Result.{on_ok_weaker}
use Rattle.json.specs.Print.{print}
use Rattle.json.specs.Reads.{token_of}
use Rattle.json.specs.Token.{Token}
use Rattle.gq_resolve.specs.Texted.{WrittenOf, written}
use Rattle.gq_resolve.proofs.Completing.{one-printed}
use Rattle.gq_resolve.proofs.completed_text.CompletedText.put.Goals as goal

pub returns : goal.returns
returns c =
    let t : Token = token_of c.args.token in
    let text = ap print (c.in_ok-token.ensures.ok ∙ ap (λ (ts : List Token). ts ++ t ∷ []) c.token_writer-writer.ensures.tokens) ∙ one-printed t in
    on_ok_weaker c.append.result (λ h. h t (record { is = text; begins = c.begins.ensures; ends = c.ends.ensures }) ∙ ap (λ (w : WrittenOf). written (t ∷ []) w) c.token_writer-writer.ensures.same) c.append.ensures
