use Rattle.std.proofs.Common.{◌≡◌, ◌∷◌, [], ◌++◌, List, ℤ, ap, ◌∙◌, refl, rules}
use Rattle.std.proofs.lemmas.Int.{to_z-of_z}
use Rattle.std.proofs.lemmas.Result.{on_ok_weaker}
use Rattle.std.specs.Fmt.{signed_decimal}
use mir.Syntax.{w32, w64}
use mir.Val.{SFits}
use Rattle.json.specs.Print.{print}
use Rattle.json.specs.Token.{Token, number}
use Rattle.gq_resolve.specs.Texted.{WrittenOf, written}
use Rattle.gq_resolve.proofs.Completing.{one-printed}
use Rattle.gq_resolve.proofs.completed_text.CompletedText.put_number.Goals as goal

pub returns : goal.returns
returns c =
    let t : Token = number (signed_decimal c.args.value) in
    let narrow : SFits w32 c.args.value = search rules in
    let wide : SFits w64 c.from.result = search rules in
    let same : c.from.result ≡ c.args.value = c.from.ensures ∙ to_z-of_z w32 c.args.value narrow in
    let text = ap print (c.in_ok-i64.ensures.ok ∙ ap (λ (z : ℤ). c.token_writer-writer.result.tokens ++ number (signed_decimal z) ∷ []) (to_z-of_z w64 c.from.result wide ∙ same)
    ∙ ap (λ (ts : List Token). ts ++ t ∷ []) c.token_writer-writer.ensures.tokens) ∙ one-printed t in
    on_ok_weaker c.append.result (λ h. h t (record { is = text; begins = refl; ends = refl }) ∙ ap (λ (w : WrittenOf). written (t ∷ []) w) c.token_writer-writer.ensures.same) c.append.ensures
